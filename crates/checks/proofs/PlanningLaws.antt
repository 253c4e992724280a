-- The checks 1 to 7: what each stage of them tells, and what a call that passes them knows. Assumes nothing.
use mathlib.Core.Path.{sym, ◌≡◌, refl, ap, ◌∙◌}
use mathlib.Core.Bool.{Bool, false}
use mathlib.Core.Option.{Option, none, some}
use mathlib.Core.List.{List, [], ◌∷◌}
use Prim.Native.Nat.{ℕ, ◌≤◌}
use native.Mathlib.Omega.{arith}
use lib.Dec.{ltb}
use lib.ListN.{length}
use borrow.Author.Tests.{eqb-true, ltb-false, not-false}
use Rattle.laws.proofs.Tests.{neither, never}
use Rattle.legal.specs.Judged.{Judged, all_legal, not_legal}
use Rattle.legal.proofs.LegalLaws.{lowest_illegal_unique, not_both}
use Rattle.tables.specs.declared.refusal.Refusal.{Refusal}
use Rattle.tables.specs.declared.refusal.Refusal.TheVariants as refusal
use Rattle.tables.specs.Limits.{most_scans, most_settings, most_term}
use Rattle.tables.specs.Tables.{cells, scratch_need}
use Rattle.checks.specs.Checks.{zero_or_over, when, or_else, first_refusal}
use Rattle.checks.specs.Planning.{Asked, UnsoundBy, SoundBy, Sound, early, illegal, first_early, range_checks, front_checks, planning_checks, settings_out, lengths_out, sizes_out, weigh_of, multiplier_out}
use Rattle.checks.specs.Stages.{CheckedBy}
use Rattle.checks.specs.Fit.{Fit, Sized}
use Rattle.checks.proofs.GiveLaws.{Gives, gives_first, gives_when}
use Rattle.checks.proofs.RangeLaws.{in_range, passes_range}
use Rattle.checks.proofs.CheckLaws.{none_when, none_else, else_nothing, all_pass, first_append}

-- numbers that passed 1 and 2 are in their range
pub in_ranges : (most N Q : ℕ) (lawless : Bool) → first_refusal (range_checks most N Q lawless) ≡ none →
    ((1 ≤ N) × (N ≤ most)) × ((1 ≤ Q) × (Q ≤ most_settings))
in_ranges most N Q lawless e =
    let p = all_pass (range_checks most N Q lawless) e in
    (in_range {most = most} {x = N} (none_when _ _ p.0), in_range {most = most_settings} {x = Q} (none_when _ _ p.1.0))

-- the last stage is one test, whatever the checks are called that come out as it does
pub last_stage : (r : Refusal) {b five : Bool} {z all : Option Refusal} → b ≡ five → z ≡ when b r → all ≡ or_else (when five r) none → z ≡ all
last_stage r {five = five} f e g = (rw f at e) ∙ sym (g ∙ else_nothing (when five r))

-- a stage that stopped gives its refusal, whatever comes after it
pub stopped : (o p : Option Refusal) {w : Refusal} → o ≡ some w → or_else o p ≡ o
stopped o p e = rw e refl

-- lengths that passed check 5
pub lengths_exact : (N Q : ℕ) (rates distortions : List ℕ) → lengths_out N Q rates distortions ≡ false →
    (length rates ≡ cells N Q) × (length distortions ≡ cells N Q)
lengths_exact N Q rates distortions e = let b = neither _ _ e in (eqb-true _ _ (not-false _ b.0), eqb-true _ _ (not-false _ b.1))

-- lengths that passed it
pub sizes_exact : (a : Asked) → sizes_out a ≡ false →
    (length a.rates ≡ cells a.N a.Q) × (length a.distortions ≡ cells a.N a.Q) × (length a.weights ≡ a.N)
sizes_exact a e =
    let b = neither _ _ e in
    let l = lengths_exact a.N a.Q a.rates a.distortions b.0 in
    (l.0, l.1, eqb-true _ _ (not-false _ b.1))

-- the checks 1 to 5 of a question
abbrev pub front_refusal : ℕ → Option Refusal → Asked → Option Refusal
front_refusal most further a = first_refusal (front_checks most a.N a.Q a.lawless further (sizes_out a))

-- .. in other words for the law's test and for the further check
pub front_same : (most : ℕ) (a : Asked) {lawless : Bool} {further further' : Option Refusal} {z : Option Refusal} →
    z ≡ first_refusal (front_checks most a.N a.Q lawless further (sizes_out a)) → lawless ≡ a.lawless → further ≡ further' → z ≡ front_refusal most further' a
front_same most a e f g = rw (f, g) at e

-- check 6
abbrev pub buffer_refusal : Bool → Option Refusal
buffer_refusal short = when short refusal.Buffer

module _ (most : ℕ) (further : Option Refusal) (short : Bool) (a : Asked) where
  -- the checks 1 to 6 are 1 to 5, and 6
  early_parts : first_early most further short a ≡ or_else (front_refusal most further a) (buffer_refusal short)
  unfolding first_early
  early_parts =
      first_append (front_checks most a.N a.Q a.lawless further (sizes_out a)) (buffer_refusal short ∷ [])
      ∙ ap (or_else (front_refusal most further a)) (else_nothing (buffer_refusal short))

  -- as each stage of the code ends, where those before it have passed
  pub front_stage : {w : Refusal} → some w ≡ front_refusal most further a → CheckedBy most further short a (some w)
  front_stage {w} e =
      let f : front_refusal most further a ≡ some w = sym e in
      early {r = w} (early_parts ∙ rw f refl)

  pub buffer_stage : {w : Refusal} → none ≡ front_refusal most further a → some w ≡ buffer_refusal short → CheckedBy most further short a (some w)
  buffer_stage {w} n e =
      let f : buffer_refusal short ≡ some w = sym e in
      let p : front_refusal most further a ≡ none = sym n in
      early {r = w} (early_parts ∙ rw (p, f) refl)

  -- where none of them refuses, the cells decide
  pub cells_decide : {o : Option Refusal} → none ≡ front_refusal most further a → none ≡ buffer_refusal short →
      Judged (weigh_of a) a.rates a.distortions o → CheckedBy most further short a o
  cells_decide n m (all_legal h) =
      let e : front_refusal most further a ≡ none = sym n in
      let f : buffer_refusal short ≡ none = sym m in
      record { passed = early_parts ∙ rw (e, f) refl; legal = h }
  cells_decide n m (not_legal h) =
      let e : front_refusal most further a ≡ none = sym n in
      let f : buffer_refusal short ≡ none = sym m in
      illegal (early_parts ∙ rw (e, f) refl) h

-- what the checks 1 to 5 leave; `wrong` says that 5 fails
pub record FrontedBy (most N Q : ℕ) (lawless : Bool) (further : Option Refusal) (wrong : Bool) : Type 0 where
  pub some_scans : 1 ≤ N
  pub scans : N ≤ most
  pub some_settings : 1 ≤ Q
  pub settings : Q ≤ most_settings
  pub law : lawless ≡ false
  pub further_passed : further ≡ none
  pub lengths : wrong ≡ false

module _ (most N Q : ℕ) (lawless : Bool) (further : Option Refusal) (wrong : Bool) where
  pub fronted_by : first_refusal (front_checks most N Q lawless further wrong) ≡ none → FrontedBy most N Q lawless further wrong
  fronted_by e =
      let p = all_pass (front_checks most N Q lawless further wrong) e in
      let n = in_range {most = most} {x = N} (none_when _ _ p.0) in
      let q = in_range {most = most_settings} {x = Q} (none_when _ _ p.1.0) in
      record {
        some_scans = n.0;
        scans = n.1;
        some_settings = q.0;
        settings = q.1;
        law = none_when _ _ p.1.1.0;
        further_passed = p.1.1.1.0;
        lengths = none_when _ _ p.1.1.1.1.0;
      }

  -- .. and the other way round
  pub fronted_none : FrontedBy most N Q lawless further wrong → first_refusal (front_checks most N Q lawless further wrong) ≡ none
  fronted_none f =
      rw (passes_range {most = most} {x = N} f.some_scans f.scans, passes_range {most = most_settings} {x = Q} f.some_settings f.settings, f.law, f.further_passed, f.lengths) refl

-- .. of a question
abbrev pub Fronted : (most : ℕ) (further : Option Refusal) (a : Asked) → Type 0
Fronted most further a = FrontedBy most a.N a.Q a.lawless further (sizes_out a)

pub fronted : (most : ℕ) (further : Option Refusal) (a : Asked) → front_refusal most further a ≡ none → Fronted most further a
fronted most further a e = fronted_by most a.N a.Q a.lawless further (sizes_out a) e

-- .. and so what is needed of numbers and lengths to judge the cells
pub sized : {most : ℕ} {further : Option Refusal} (a : Asked) → Fronted most further a → most ≤ most_scans → Sized a.N a.Q a.rates a.distortions a.weights
sized a f h =
    let l = sizes_exact a f.lengths in
    record {
      some_scans = f.some_scans;
      scans = omega (arith, f.scans);
      some_settings = f.some_settings;
      settings = f.settings;
      rates_long = l.0;
      distortions_long = l.1;
      weights_long = l.2;
    }

-- .. where none of the checks 1 to 6 refuses
pub early_fronted : (most : ℕ) (further : Option Refusal) (short : Bool) (a : Asked) → first_early most further short a ≡ none → Fronted most further a
early_fronted most further short a e =
    fronted most further a (none_else (front_refusal most further a) (buffer_refusal short) (sym (early_parts most further short a) ∙ e)).0

-- .. and the other way round: no refusal is given where each of the checks passes
pub fronted_passes : (most : ℕ) (further : Option Refusal) (short : Bool) (a : Asked) → Fronted most further a → short ≡ false → first_early most further short a ≡ none
fronted_passes most further short a f e =
    early_parts most further short a ∙ rw (fronted_none most a.N a.Q a.lawless further (sizes_out a) f, e) refl

module _ {most : ℕ} {further : Option Refusal} {short : Bool} {a : Asked} where
  parts_passed : SoundBy most further short a → (front_refusal most further a ≡ none) × (buffer_refusal short ≡ none)
  parts_passed s = none_else (front_refusal most further a) (buffer_refusal short) (sym (early_parts most further short a) ∙ s.passed)

  -- what a call that passed knows: its numbers and lengths, and that 6 does not fail
  pub sound_front : SoundBy most further short a → Fronted most further a
  sound_front s = fronted most further a (parts_passed s).0

  pub sound_short : SoundBy most further short a → short ≡ false
  sound_short s = none_when short refusal.Buffer (parts_passed s).1

  -- .. and so a pass can be asked, where scratch has the room of one
  pub sound_room : most ≤ most_scans → {room : ℕ} → scratch_need a.N a.Q ≤ room → SoundBy most further short a →
      Fit a.N a.Q a.rates a.distortions a.weights room
  sound_room h g s =
      let f = sound_front s in
      let l = sizes_exact a f.lengths in
      record {
        some_scans = f.some_scans;
        scans = omega (arith, f.scans);
        some_settings = f.some_settings;
        settings = f.settings;
        rates_long = l.0;
        distortions_long = l.1;
        weights_long = l.2;
        legal = s.legal;
        room = g;
      }

module _ {further : Option Refusal} {a : Asked} where
  -- the buffers that check 6 lets pass
  long_enough : Sound further a → (a.N ≤ a.plan) × (scratch_need a.N a.Q ≤ a.scratch)
  long_enough s =
      let b = neither _ _ (sound_short s) in
      (ltb-false _ _ b.0, ltb-false _ _ b.1)

  -- a sound call is one that a pass can be asked, lends room for the plan, and has passed the further check
  pub sound_fit : Sound further a → Fit a.N a.Q a.rates a.distortions a.weights a.scratch
  sound_fit s = sound_room (omega arith) (long_enough s).1 s

  pub sound_plan : Sound further a → a.N ≤ a.plan
  sound_plan s = (long_enough s).0

  pub sound_law : Sound further a → a.lawless ≡ false
  sound_law s = (sound_front s).law

  pub sound_further : Sound further a → further ≡ none
  sound_further s = (sound_front s).further_passed

module _ {most : ℕ} {further : Option Refusal} {short : Bool} {a : Asked} where
  -- the checks give one refusal, and none where they pass
  pub unsound_unique : {r r' : Refusal} → UnsoundBy most further short a r → UnsoundBy most further short a r' → r ≡ r'
  unsound_unique (early e) (early e') = cc
  unsound_unique (early e) (illegal e' l) = never (cc)
  unsound_unique (illegal e l) (early e') = never (cc)
  unsound_unique (illegal e l) (illegal e' l') = ap refusal.Cell (lowest_illegal_unique (weigh_of a) a.rates a.distortions l l')

  pub sound_or_not : {r : Refusal} → UnsoundBy most further short a r → SoundBy most further short a → ⊥
  sound_or_not (early e) s = let p = s.passed in never (cc)
  sound_or_not (illegal e l) s = not_both (weigh_of a) a.rates a.distortions l s.legal

-- a multiplier that passed check 4 is in its range
pub multiplier_in : {n d : ℕ} → when (multiplier_out n d) refusal.Multiplier ≡ none → (n ≤ most_term) × ((1 ≤ d) × (d ≤ most_term))
multiplier_in {n} {d} e =
    let r = neither (ltb most_term n) (zero_or_over most_term d) (none_when (multiplier_out n d) refusal.Multiplier e) in
    let i = in_range {most = most_term} {x = d} r.1 in
    (ltb-false most_term n r.0, (i.0, i.1))

-- what holds of the refusals 1, 2, 3, 5 and 6, and of those of the further check, holds of the first that is given
pub early_gives : (P : Refusal → Type 0) (most : ℕ) (further : Option Refusal) (short : Bool) (a : Asked) → P refusal.Scans → P refusal.Settings →
    P refusal.StepLaw → Gives P further → P refusal.Lengths → P refusal.Buffer → Gives P (first_early most further short a)
unfolding first_early
early_gives P most further short a one two three f five six =
    gives_first P (planning_checks most a.N a.Q a.lawless further (sizes_out a) short) (
      gives_when P (zero_or_over most a.N) refusal.Scans one,
      (
        gives_when P (settings_out a.Q) refusal.Settings two,
        (
          gives_when P a.lawless refusal.StepLaw three,
          (
            f,
            (
              gives_when P (sizes_out a) refusal.Lengths five,
              (gives_when P short refusal.Buffer six, tt),
            ),
          ),
        ),
      ),
    )
