-- The bytes of an answer, and how an answer and a refusal are told. Assumes nothing.
use mathlib.Core.Path.{◌≡◌, refl, sym, ap, ◌∙◌}
use mathlib.Core.List.{List, [], ◌∷◌, ◌++◌, append_assoc, append-nil}
use Prim.Native.Nat.{ℕ, zero, suc, ◌+◌, ◌*◌, ◌≤◌, ◌<◌, ◌^◌}
use native.Mathlib.Numerals.{add-one}
use native.Mathlib.Omega.{arith}
use lib.ListN.{length, get_or, take, drop, length-append}
use lib.Seq.{sets, sets-eq, length-take-le}
use borrow.Author.Tests.{ne_eqb}
use Rattle.tables.specs.declared.refusal.Refusal.{Refusal}
use Rattle.tables.specs.declared.refusal.Refusal.TheVariants as refusal
use Rattle.tables.specs.Refusals.{Reply, refused, answered, number_of, carried_by}
use Rattle.tables.proofs.RefusalLaws.{never_zero}
use Rattle.octets.specs.Bytes.{le}
use Rattle.laws.proofs.Stores.{sets_append}
use Rattle.octets.proofs.NumberLaws.{length_le}
use Rattle.telling.specs.Told.{eights, word_of, answer_after, Told}
use Rattle.telling.specs.Parts.{Tellable}

length_eights : (v : List ℕ) → length (eights v) ≡ 8 * length v
length_eights [] = refl
length_eights (x ∷ v) = omega (arith, length-append (le 8 x) (eights v), length_le 8 x, length_eights v)

-- the bytes of one value more
eights_more : (v : List ℕ) (i : ℕ) → i < length v → eights (take i v) ++ le 8 (get_or v i 0) ≡ eights (take (suc i) v)
eights_more [] i h = absurd (omega arith)
eights_more (x ∷ v) zero h = sym (append-nil (le 8 x))
eights_more (x ∷ v) (suc i) h =
    append_assoc (le 8 x) (eights (take i v)) (le 8 (get_or v i 0)) ∙ ap (λ (l : List ℕ). le 8 x ++ l) (eights_more v i (omega arith))

-- one value more is stored right behind those before it
pub value_more : (d : List ℕ) {before after : List ℕ} (v : List ℕ) (i : ℕ) → i < length v → before ≡ sets d 0 (eights (take i v)) →
    after ≡ sets before (8 * i) (le 8 (get_or v i 0)) → after ≡ sets d 0 (eights (take (i + 1) v))
value_more d v i h e f =
    let x = get_or v i 0 in
    let long : 8 * i ≡ 0 + length (eights (take i v)) = omega (arith, length_eights (take i v), length-take-le i v (omega arith)) in
    f
    ∙ ap (λ (l : List ℕ). sets l (8 * i) (le 8 x)) e
    ∙ sets_append d (eights (take i v)) (le 8 x) 0 (8 * i) long
    ∙ ap (sets d 0) (eights_more v i h ∙ ap (λ (n : ℕ). eights (take n v)) (sym (add-one i)))

pub number_small : (r : Refusal) → number_of r ≤ 19
number_small refusal.Scans = omega arith
number_small refusal.Settings = omega arith
number_small refusal.StepLaw = omega arith
number_small refusal.Multiplier = omega arith
number_small refusal.Lengths = omega arith
number_small refusal.Buffer = omega arith
number_small (refusal.Cell k) = omega arith
number_small refusal.NoSequence = omega arith
number_small refusal.NoneWithin = omega arith
number_small refusal.Channels = omega arith
number_small refusal.FileLength = omega arith
number_small (refusal.Block b) = omega arith
number_small (refusal.Header byte) = omega arith
number_small (refusal.Entry e) = omega arith
number_small (refusal.Malformed line) = omega arith
number_small (refusal.OutOfRange line) = omega arith
number_small (refusal.Twice line) = omega arith
number_small refusal.Budget = omega arith

pub word_refused : (r : Refusal) → word_of (refused r) ≡ number_of r + 4294967296 * carried_by r
unfolding word_of
word_refused r = rw (ne_eqb (number_of r) 0 (never_zero r)) refl

-- an answer's values fit, and what a refusal carries is small
pub tellable_answer : {reply : Reply} {n : ℕ} (v : List ℕ) → reply ≡ answered v → Tellable reply n → 8 * length v ≤ n
tellable_answer {reply} {n} v e t = let t' : Tellable (answered v) n = (rw e at t) in t'.holds refl

pub tellable_refusal : {reply : Reply} {n : ℕ} (r : Refusal) → reply ≡ refused r → Tellable reply n → carried_by r < 2 ^ 32
tellable_refusal {reply} {n} r e t = let t' : Tellable (refused r) n = (rw e at t) in t'.small (never_zero r)

pub answer_told : {reply : Reply} (v answer : List ℕ) {after : List ℕ} → reply ≡ answered v → 8 * length v ≤ length answer →
    after ≡ sets answer 0 (eights v) → Told reply answer 0 after
unfolding word_of answer_after
answer_told v answer e h f =
    let long : 0 + length (eights v) ≡ 8 * length v = omega (arith, length_eights v) in
    rw e (refl, f ∙ sets-eq (eights v) answer 0 (omega (arith, long)) ∙ ap (λ (n : ℕ). eights v ++ drop n answer) long)

pub refusal_told : {reply : Reply} (r : Refusal) (answer : List ℕ) {word : ℕ} → reply ≡ refused r → word ≡ word_of (refused r) →
    Told reply answer word answer
unfolding answer_after
refusal_told r answer e f = rw e (f, rw (ne_eqb (number_of r) 0 (never_zero r)) refl)

pub word_answered : {reply : Reply} (v : List ℕ) → reply ≡ answered v → 0 ≡ word_of reply
unfolding word_of
word_answered v e = rw e refl

-- of an equal reply
pub tellable_as : {reply reply' : Reply} {n : ℕ} → reply ≡ reply' → Tellable reply' n → Tellable reply n
tellable_as e t = rw e t

pub told_as : {reply reply' : Reply} (answer : List ℕ) (word : ℕ) (after : List ℕ) → reply ≡ reply' → Told reply answer word after →
    Told reply' answer word after
told_as answer word after e t = rw (← e) t
