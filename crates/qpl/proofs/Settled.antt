-- What the surface settles: equal inputs give one word and one content of every buffer; an answer buffer that is too short is refused with 6
-- in its place among the checks; and a word is never two refusals. Assumes nothing.
use mathlib.Core.Path.{◌≡◌, refl, sym, ap, ◌∙◌}
use mathlib.Core.Bool.{Bool, true, false, ◌||◌}
use mathlib.Core.Option.{Option, none, some}
use mathlib.Core.List.{List}
use Prim.Native.Nat.{ℕ, ◌+◌, ◌*◌, ◌/◌, ◌%◌, ◌≤◌, ◌<◌, ◌^◌}
use native.Mathlib.Omega.{arith}
use lib.Dec.{ltb}
use lib.ListN.{length}
use borrow.Author.Tests.{lt-ltb, ne_eqb}
use Rattle.std.specs.Prelude.{Ok, Err}
use Rattle.tables.specs.declared.refusal.Refusal.{Refusal}
use Rattle.tables.specs.declared.refusal.Refusal.TheVariants as refusal
use Rattle.tables.specs.Limits.{most_scans, most_short_scans}
use Rattle.tables.specs.Refusals.{Reply, refused, number_of, carried_by}
use Rattle.checks.proofs.CheckLaws.{all_pass}
use Rattle.checks.specs.Checks.{zero_or_over, first_refusal, when, found, or_else}
use mathlib.Core.List.{[], ◌∷◌, ◌++◌}
use Rattle.checks.specs.Planning.{Asked, front_checks, first_early, settings_out, lengths_out, weights_out, asking}
use Rattle.tables.specs.Law.{law_out}
use Rattle.checks.proofs.RangeLaws.{in_range}
use Rattle.laws.proofs.Tests.{never, neither}
use Rattle.tables.proofs.RefusalLaws.{never_zero, refusal_of, refusal_back}
use Rattle.blocks.specs.Blocks.{length_out, bad_block}
use Rattle.planfile.specs.Reading.{read_refusal_under, broken_field_under, broken_field, fields_of, faults_of, read_refusal}
use Rattle.rules.proofs.FieldLaws.{rules_hold}
use Rattle.promise.specs.Promise.{CeilingPromise, MultiplierPromise, MinmaxPromise, AveragePromise, plan_reply, minmax_reply, average_reply}
use Rattle.promise.proofs.Unique.{ceiling_settled, multiplier_settled, minmax_settled, average_settled}
use Rattle.best.specs.Best.{choices_need, totals_need, budget_check, best_short, BestPromise}
use Rattle.fits.specs.Fits.{FitsAnswer, question, FitsPromise, fits_reply}
use Rattle.fitting.proofs.Unique.{fits_settled}
use Rattle.lastly.specs.Lastly.{asked_last, fits_told}
use Rattle.between.proofs.Unique.{best_settled}
use Rattle.telling.specs.Told.{word_of, Told, lent}
use Rattle.qpl.specs.Surface.{Tells, read_bytes}
use Rattle.telling.proofs.AnswerLaws.{number_small, word_refused}

-- what is told of equal replies is the same
told_once : {reply reply' : Reply} (answer : List ℕ) {word word' : ℕ} {t t' : List ℕ} → reply ≡ reply' → Told reply answer word t →
    Told reply' answer word' t' → (word ≡ word') × (t ≡ t')
told_once answer e h g = let g' = (rw (← e) at g) in (h.0 ∙ sym g'.0, h.1 ∙ sym g'.1)

-- the words and the three lent buffers are the same
abbrev pub AllSame : (word word' : ℕ) (answer answer' plan plan' scratch scratch' : List ℕ) → Type 0
AllSame word word' answer answer' plan plan' scratch scratch' = (word ≡ word') × (answer ≡ answer') × (plan ≡ plan') × (scratch ≡ scratch')

tells_once : {A : Type 0} (reply_of : A → Reply) {Kept Kept' : A → Type 0} (answer : List ℕ) {word word' : ℕ} {t t' p p' s s' : List ℕ} →
    ((r r' : A) → Kept r → Kept' r' → (r ≡ r') × (p ≡ p') × (s ≡ s')) → Tells reply_of Kept answer word t →
    Tells reply_of Kept' answer word' t' → AllSame word word' t t' p p' s s'
tells_once reply_of answer settled x y =
    let u = settled x.given y.given x.kept y.kept in
    let w = told_once answer (ap reply_of u.0) x.told y.told in
    (w.0, w.1, u.1, u.2)

-- what a call is asked
abbrev pub asked_of : (need N Q law : ℕ) (rates distortions weights plan scratch answer : List ℕ) → Asked
asked_of need N Q law rates distortions weights plan scratch answer =
    asking N Q law rates distortions weights (lent need (length answer) (length plan)) (length scratch)

-- the theorems, one for each call
module _ (N Q law : ℕ) (rates distortions weights plan scratch answer : List ℕ) {word word' : ℕ} {t t' p p' s s' : List ℕ} where
  pub ceiling_tells_once : (X : ℕ) →
      Tells plan_reply (λ r. CeilingPromise (asked_of 24 N Q law rates distortions weights plan scratch answer) X plan scratch r p s) answer word t →
      Tells plan_reply (λ r. CeilingPromise (asked_of 24 N Q law rates distortions weights plan scratch answer) X plan scratch r p' s') answer word' t' →
      AllSame word word' t t' p p' s s'
  ceiling_tells_once X = tells_once plan_reply answer (λ r r'. ceiling_settled {X = X} r r')

  pub multiplier_tells_once : (n d : ℕ) →
      Tells plan_reply (λ r. MultiplierPromise (asked_of 24 N Q law rates distortions weights plan scratch answer) n d plan scratch r p s) answer word t →
      Tells plan_reply (λ r. MultiplierPromise (asked_of 24 N Q law rates distortions weights plan scratch answer) n d plan scratch r p' s') answer word' t' →
      AllSame word word' t t' p p' s s'
  multiplier_tells_once n d = tells_once plan_reply answer (λ r r'. multiplier_settled n d r r')

  pub minmax_tells_once : (B : ℕ) →
      Tells minmax_reply (λ r. MinmaxPromise (asked_of 32 N Q law rates distortions weights plan scratch answer) B plan scratch r p s) answer word t →
      Tells minmax_reply (λ r. MinmaxPromise (asked_of 32 N Q law rates distortions weights plan scratch answer) B plan scratch r p' s') answer word' t' →
      AllSame word word' t t' p p' s s'
  minmax_tells_once B = tells_once minmax_reply answer (λ r r'. minmax_settled {B = B} r r')

  pub average_tells_once : (B : ℕ) →
      Tells average_reply (λ r. AveragePromise (asked_of 48 N Q law rates distortions weights plan scratch answer) B plan scratch r p s) answer word t →
      Tells average_reply (λ r. AveragePromise (asked_of 48 N Q law rates distortions weights plan scratch answer) B plan scratch r p' s') answer word' t' →
      AllSame word word' t t' p p' s s'
  average_tells_once B = tells_once average_reply answer (λ r r'. average_settled {B = B} r r')

-- .. and the true best, with one buffer more
pub best_tells_once : (N Q law B : ℕ) (rates distortions weights plan choices cells answer : List ℕ) {word word' : ℕ} {t t' p p' s s' c c' : List ℕ} →
    Tells plan_reply (λ r. BestPromise (asked_of 24 N Q law rates distortions weights plan choices answer) B plan choices cells r p s c) answer word t →
    Tells plan_reply (λ r. BestPromise (asked_of 24 N Q law rates distortions weights plan choices answer) B plan choices cells r p' s' c') answer word' t' →
    AllSame word word' t t' p p' s s' × (c ≡ c')
best_tells_once N Q law B rates distortions weights plan choices cells answer x y =
    let u = best_settled {a = asked_of 24 N Q law rates distortions weights plan choices answer} x.given y.given x.kept y.kept in
    let w = told_once answer (ap plan_reply u.0) x.told y.told in
    ((w.0, w.1, u.1, u.2), u.3)

-- .. and the question whether something fits, which is lent nothing but the answer buffer
pub fits_tells_once : (N Q law B : ℕ) (rates distortions answer : List ℕ) {word word' : ℕ} {t t' : List ℕ} →
    Tells (fits_told (length answer)) (λ r. FitsPromise (question N Q law B rates distortions) (fits_reply r)) answer word t →
    Tells (fits_told (length answer)) (λ r. FitsPromise (question N Q law B rates distortions) (fits_reply r)) answer word' t' → (word ≡ word') × (t ≡ t')
fits_tells_once N Q law B rates distortions answer x y =
    let u = fits_settled {a = question N Q law B rates distortions} x.given y.given x.kept y.kept in
    told_once answer (ap (fits_told (length answer)) u) x.told y.told

-- An answer buffer that is too short for it: 6 in the place of yes and of no alike, and every refusal as it is.
abbrev pub short_fits : FitsAnswer → Reply
short_fits (Ok x) = refused refusal.Buffer
short_fits (Err r) = refused r

pub short_answer_fits : (answer : ℕ) (r : FitsAnswer) → ltb answer 8 ≡ true → fits_told answer r ≡ short_fits r
unfolding asked_last
short_answer_fits answer (Ok true) e = rw e refl
short_answer_fits answer (Ok false) e = rw e refl
short_answer_fits answer (Err r) e = rw (ne_eqb (number_of r) 0 (never_zero r)) refl

-- what follows a stage matters only where it passes
after_stage : (o x y : Option Refusal) → (o ≡ none → x ≡ y) → or_else o x ≡ or_else o y
after_stage none x y h = h refl
after_stage (some r) x y h = refl

-- The reader then gives the first of 11, 12, 13, and else 6: 14 is never reached, and nothing is read.
pub short_answer_read : (file : List ℕ) (answer room : ℕ) → ltb answer read_bytes ≡ true →
    read_refusal file (lent read_bytes answer room)
    ≡ first_refusal (when (length_out (length file)) refusal.FileLength ∷ found refusal.Block (bad_block file) ∷ broken_field file ∷ some refusal.Buffer ∷ [])
unfolding read_refusal_under broken_field_under
short_answer_read file answer room short = rw short
    (ap (or_else (when (length_out (length file)) refusal.FileLength))
    (ap (or_else (found refusal.Block (bad_block file)))
    (after_stage (broken_field file) _ (some refusal.Buffer) (λ e.
    let n = in_range {most = most_scans} {x = (fields_of file).scans} (neither _ _ (rules_hold (law_out (fields_of file).law) (faults_of file) (fields_of file) e).scans).0 in
    rw (lt-ltb 0 (fields_of file).scans (omega (arith, n.0))) refl))))

-- the checks of a planning call whose answer buffer is too short: 1 to 5, and then 6
abbrev pub short_checks : (most : ℕ) → Option Refusal → (N Q law : ℕ) (rates distortions weights : List ℕ) → List (Option Refusal)
short_checks most further N Q law rates distortions weights =
    front_checks most N Q (law_out law) further (lengths_out N Q rates distortions || weights_out N weights) ++ (some refusal.Buffer ∷ [])

-- A planning call then gives the first of 1 to 5, and else 6, whatever the other buffers (`others` says that one of them is too short).
pub short_answer_plan : (most : ℕ) (further : Option Refusal) (N Q law : ℕ) (rates distortions weights : List ℕ) (need answer room scratch : ℕ) (others : Bool) →
    ltb answer need ≡ true →
    first_early most further (ltb (lent need answer room) N || others) (asking N Q law rates distortions weights (lent need answer room) scratch)
    ≡ first_refusal (short_checks most further N Q law rates distortions weights)
unfolding first_early
short_answer_plan most further N Q law rates distortions weights need answer room scratch others short = rw short (of (zero_or_over most N) (in_range {most = most} {x = N}))
  where
    later : Bool → List (Option Refusal)
    later b =
        when (settings_out Q) refusal.Settings ∷ when (law_out law) refusal.StepLaw ∷ further ∷ when (lengths_out N Q rates distortions || weights_out N weights) refusal.Lengths
        ∷ when b refusal.Buffer ∷ []

    -- no room is short of a scan
    of : (b : Bool) → (b ≡ false → (1 ≤ N) × (N ≤ most)) →
        or_else (when b refusal.Scans) (first_refusal (later (ltb 0 N || others))) ≡ or_else (when b refusal.Scans) (first_refusal (later true))
    of true h = refl
    of false h = rw (lt-ltb 0 N (omega (arith, (h refl).0))) refl

-- so it is refused
pub short_answer_refused : (most : ℕ) (further : Option Refusal) (N Q law : ℕ) (rates distortions weights : List ℕ) (need answer room scratch : ℕ) (others : Bool) →
    ltb answer need ≡ true → first_early most further (ltb (lent need answer room) N || others) (asking N Q law rates distortions weights (lent need answer room) scratch) ≡ none → ⊥
short_answer_refused most further N Q law rates distortions weights need answer room scratch others short e =
    let p = all_pass (short_checks most further N Q law rates distortions weights)
    (sym (short_answer_plan most further N Q law rates distortions weights need answer room scratch others short) ∙ e) in
    let z : some refusal.Buffer ≡ none = p.1.1.1.1.1.0 in
    never cc

-- .. of the true best
pub short_answer_best : (B N Q law : ℕ) (rates distortions weights : List ℕ) (answer room choices cells : ℕ) → ltb answer 24 ≡ true →
    first_early most_short_scans (budget_check B) (best_short N Q B (lent 24 answer room) choices cells) (asking N Q law rates distortions weights (lent 24 answer room) choices)
    ≡ first_refusal (short_checks most_short_scans (budget_check B) N Q law rates distortions weights)
short_answer_best B N Q law rates distortions weights answer room choices cells =
    short_answer_plan most_short_scans (budget_check B) N Q law rates distortions weights 24 answer room choices (ltb choices (choices_need N Q B) || ltb cells (totals_need Q B))

-- Equal words are of equal refusals.
pub word_settles : (r r' : Refusal) → word_of (refused r) ≡ word_of (refused r') → r ≡ r'
word_settles r r' e =
    let h : number_of r + 4294967296 * carried_by r ≡ number_of r' + 4294967296 * carried_by r' = sym (word_refused r) ∙ e ∙ word_refused r' in
    let n : number_of r ≡ number_of r' = omega (arith, h, number_small r, number_small r') in
    let k : carried_by r ≡ carried_by r' = omega (arith, h, n) in
    sym (refusal_back r)
    ∙ ap (λ (x : ℕ). refusal_of x (carried_by r)) n
    ∙ ap (refusal_of (number_of r')) k
    ∙ refusal_back r'

-- No refusal's word is 0.
pub word_not_zero : (r : Refusal) → word_of (refused r) ≡ 0 → ⊥
word_not_zero r e = never_zero r (omega (arith, word_refused r, e))

-- Its low 32 bits are the number and the rest is what is carried; where that is below 2 ^ 32, as in every word that goes back, it fits 64 bits.
pub word_parts : (r : Refusal) → (word_of (refused r) % 4294967296 ≡ number_of r) × (word_of (refused r) / 4294967296 ≡ carried_by r)
word_parts r = (omega (arith, word_refused r, number_small r), omega (arith, word_refused r, number_small r))

pub word_fits : (r : Refusal) → carried_by r < 2 ^ 32 → word_of (refused r) < 2 ^ 64
word_fits r h = omega (arith, word_refused r, number_small r)
