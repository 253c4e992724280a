-- What a refusal carries is below 2 ^ 32, whichever call gives it, and what a call answers can be told. Assumes nothing.
use mathlib.Core.Path.{◌≡◌, refl, ap}
use mathlib.Core.Bool.{Bool, true, false, cond}
use mathlib.Core.Option.{Option, none}
use mathlib.Core.List.{List, [], ◌∷◌}
use Prim.Native.Nat.{ℕ, ◌*◌, ◌-◌, ◌/◌, ◌≤◌, ◌<◌, ◌^◌}
use native.Mathlib.Omega.{arith}
use lib.Dec.{ltb}
use lib.ListN.{length, get_or}
use borrow.Author.Tests.{ltb-false}
use Rattle.std.specs.Prelude.{Result, Ok, Err, Option as StdOption, Some, MatchOption}
use Rattle.std.specs.Result.{result_err}
use Rattle.tables.specs.declared.refusal.Refusal.{Refusal}
use Rattle.tables.specs.declared.refusal.Refusal.TheVariants as refusal
use Rattle.tables.specs.Refusals.{Reply, refused, carried_by, ended}
use Rattle.criteria.specs.Choice.{Problem}
use Rattle.tables.specs.Limits.{most_scans}
use Rattle.checks.specs.Planning.{Asked, UnsoundBy, early, illegal}
use Rattle.checks.proofs.GiveLaws.{Gives, given, gives_when, gives_else, gives_found}
use Rattle.checks.proofs.PlanningLaws.{early_gives, early_fronted, sizes_exact}
use Rattle.rules.proofs.FieldLaws.{rules_give}
use Rattle.tables.specs.Law.{allows, law_out}
use Rattle.rules.specs.Rules.{header_rules}
use Rattle.rules.specs.declared.Faults.{Faults}
use Rattle.checks.specs.Checks.{first_refusal, or_answer, first_from, found, when}
use Rattle.checks.proofs.RangeLaws.{in_range}
use Rattle.laws.proofs.Tests.{never, neither}
use Rattle.tables.proofs.CellLaws.{cells_small}
use Rattle.rules.specs.declared.Fields.{Fields}
use Rattle.blocks.specs.Letters.{version_of}
use Rattle.blocks.specs.File.{entry_at, file_length}
use Rattle.entries.specs.Entries.{entry_broken}
use Rattle.blocks.specs.Blocks.{length_out, block_broken, bad_block}
use Rattle.planfile.specs.Reading.{bad_entry_under, broken_field_under, read_refusal_under, bad_entry, broken_field, fields_of, faults_of, read_refusal, read_of, plan_read, read_values}
use Rattle.planfile.specs.Writing.{no_faults, write_short, write_refusal_under, write_refusal, write_of, write_reply}
use Rattle.checks.proofs.CheckLaws.{none_when}
use Rattle.planfile.proofs.ReadLaws.{two_lengths}
use Rattle.planfile.proofs.WriteLaws.{scans_inside}
use Rattle.planfile.proofs.Accepted.{passed}
use Rattle.promise.specs.Promise.{PromiseOver, unsound, no_sequence, none_within, planned}
use Rattle.telling.specs.Told.{lent, word_of}
use Rattle.lastly.proofs.CarryLaws.{Little, refusal_tellable, or_tellable}
use Rattle.qpl.specs.Surface.{read_bytes}
use Rattle.telling.specs.Parts.{Tellable}
use Rattle.telling.proofs.AnswerLaws.{tellable_refusal, tellable_as}

-- the refusals of each call
rules_light : (lawless : Bool) (m : Faults) (f : Fields) → Gives Little (first_refusal (header_rules lawless m f))
rules_light lawless m f = rules_give Little lawless m f (λ byte h. omega arith)

-- a block's number is below 3, and an entry's below 2,016
pub read_light : (file : List ℕ) (room : ℕ) → Gives Little (read_refusal file room)
unfolding read_refusal_under broken_field_under bad_block bad_entry_under
read_light file room =
    gives_else Little (when (length_out (length file)) refusal.FileLength) _ (gives_when Little (length_out (length file)) refusal.FileLength (omega arith)) (λ e.
    let n = two_lengths (length file) (none_when (length_out (length file)) refusal.FileLength e) in
    gives_else Little (found refusal.Block (bad_block file)) _
    (gives_found Little (length file / 512) refusal.Block (block_broken (version_of file) file) 0 (λ i h. omega arith)) (λ f.
    gives_else Little (broken_field file) _ (rules_light (law_out (fields_of file).law) (faults_of file) (fields_of file)) (λ g.
    gives_else Little (when (ltb room (fields_of file).scans) refusal.Buffer) _
    (gives_when Little (ltb room (fields_of file).scans) refusal.Buffer (omega arith)) (λ h.
    gives_else Little (found refusal.Entry (bad_entry file)) none (gives_found Little (1008 * (length file / 512 - 1)) refusal.Entry
    (entry_broken (fields_of file).scans (fields_of file).settings (allows (fields_of file).law) (entry_at file)) 0 (λ i l. omega arith)) (λ z. tt)))))

-- an entry's number is below N
pub write_light : (f : Fields) (settings : List ℕ) (room : ℕ) → Gives Little (write_refusal f settings room)
unfolding write_refusal_under
write_light f settings room =
    let bad : ℕ → Bool = entry_broken f.scans f.settings (allows f.law) (λ j. get_or settings j 0) in
    gives_else Little (first_refusal (header_rules (law_out f.law) no_faults f)) _ (rules_light (law_out f.law) no_faults f) (λ e.
    let n = scans_inside f e in
    gives_else Little (when (write_short f.scans (length settings) room) refusal.Buffer) _
    (gives_when Little (write_short f.scans (length settings) room) refusal.Buffer (omega arith)) (λ g.
    gives_else Little (found refusal.Entry (first_from bad 0 f.scans)) none (gives_found Little f.scans refusal.Entry bad 0 (λ i h. omega arith)) (λ z. tt)))

-- a cell's number is below the number of cells
pub unsound_light : {most : ℕ} {further : Option Refusal} {short : Bool} {a : Asked} {r : Refusal} → most ≤ most_scans → Gives Little further →
    UnsoundBy most further short a r → carried_by r < 2 ^ 32
unsound_light {most} {further} {short} {a} {r} h f (early e) =
    given Little (early_gives Little most further short a (omega arith) (omega arith) (omega arith) f (omega arith) (omega arith)) e
unsound_light {most} {further} {short} {a} h f (illegal e l) =
    let p = early_fronted most further short a e in
    omega (arith, l.inside, (sizes_exact a p.lengths).0, cells_small {N = a.N} {Q = a.Q} (omega (arith, p.scans)) p.settings)

-- where a setting has room, the answer has
lent_some : (need answer room : ℕ) → 1 ≤ lent need answer room → need ≤ answer
lent_some need answer room = of (ltb answer need) (ltb-false answer need)
  where
    of : (t : Bool) → (t ≡ false → need ≤ answer) → 1 ≤ cond t 0 room → need ≤ answer
    of true f h = absurd (omega arith)
    of false f h = f refl

pub read_tellable : (file : List ℕ) (answer room : ℕ) → Tellable (read_of file (lent read_bytes answer room)) answer
unfolding read_of
read_tellable file answer room = or_tellable (read_refusal file (lent read_bytes answer room)) (read_values (plan_read file)) answer
    (read_light file (lent read_bytes answer room)) (λ e.
    let p = passed file (lent read_bytes answer room) e in
    let n = in_range {most = most_scans} {x = (fields_of file).scans} (neither _ _ p.rules.scans).0 in
    lent_some read_bytes answer room (omega (arith, p.enough, n.0)))

-- a planning call whose answer needs so many bytes, and which asks for the plan's
pub promise_tellable : {a : Asked} {Refused : Refusal → Type 0} {Passed : Type 0} {P : Problem} {within : List ℕ → Type 0} {Plan : List ℕ → List ℕ → Type 0}
    {Same Cleared : Type 0} {plan p : List ℕ} {reply : Reply} (need answer room : ℕ) → ((r : Refusal) → Refused r → Little r) → (Passed → 1 ≤ a.plan) →
    ((t v : List ℕ) → Plan t v → 8 * length v ≤ need) → a.plan ≡ lent need answer room →
    PromiseOver a Refused Passed P within Plan Same Cleared plan reply p → Tellable reply answer
promise_tellable need answer room little enough fits m (unsound {r = r} u e f g) = refusal_tellable r e (little r u)
promise_tellable need answer room little enough fits m (no_sequence o n e f g) = refusal_tellable refusal.NoSequence e (omega arith)
promise_tellable need answer room little enough fits m (none_within o n e f g) = refusal_tellable refusal.NoneWithin e (omega arith)
promise_tellable need answer room little enough fits m (planned o t v q e f g) =
    let some_room : 1 ≤ lent need answer room = omega (arith, enough o, m) in
    tellable_as e (or_tellable none v answer tt (λ z. omega (arith, fits t v q, lent_some need answer room some_room)))

pub write_carries : (f : Fields) (settings : List ℕ) (room : ℕ) (r : Refusal) → write_of f settings room ≡ refused r → carried_by r < 2 ^ 32
unfolding write_of
write_carries f settings room r e = tellable_refusal r e
    (or_tellable (write_refusal f settings room) (file_length f.scans ∷ []) 8 (write_light f settings room) (λ z. omega arith))

-- a call that was refused with this
pub was_refused : {T : Type 0} (told : Result T Refusal) {e : StdOption Refusal} {r : Refusal} → e ≡ result_err told → e ≡ Some r → told ≡ Err r
was_refused (Ok x) e f = never cc
was_refused (Err r) e f = ap Err cc

-- what goes back of a call that answers nothing: 0, or the word of its refusal
pub import_back : (told : Result (Unit {0}) Refusal) {e : StdOption Refusal} {w : ℕ} → e ≡ result_err told → MatchOption e (w ≡ 0) (λ r. w ≡ word_of (refused r)) →
    w ≡ word_of (or_answer (ended told) [])
unfolding word_of
import_back (Ok x) e m = rw e at m
import_back (Err r) e m = rw e at m

pub write_back : (told : Result ℕ Refusal) {e : StdOption Refusal} {w : ℕ} → e ≡ result_err told → MatchOption e (w ≡ 0) (λ r. w ≡ word_of (refused r)) →
    w ≡ word_of (write_reply told)
unfolding word_of
write_back (Ok n) e m = rw e at m
write_back (Err r) e m = rw e at m
