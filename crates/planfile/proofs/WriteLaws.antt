-- The writer's stages, and its answer. Assumes nothing.
use mathlib.Core.Path.{◌≡◌, sym, ap, ◌∙◌}
use mathlib.Core.Bool.{true, false, cond}
use mathlib.Core.Option.{none}
use mathlib.Core.List.{List, ◌++◌, append-nil, append_assoc}
use Prim.Native.Nat.{ℕ, zero, suc, ◌+◌, ◌*◌, ◌≤◌, ◌<◌}
use native.Mathlib.Nat.{zero-add}
use native.Mathlib.Omega.{arith}
use lib.Dec.{ltb}
use lib.ListN.{length, drop, get_or}
use lib.Seq.{sets, sets-eq}
use borrow.Author.Tests.{ltb-false, lt-ltb}
use Rattle.tables.specs.declared.refusal.Refusal.TheVariants as refusal
use Rattle.checks.specs.Checks.{first_refusal, when}
use Rattle.checks.specs.Planning.{scans_out}
use Rattle.checks.proofs.RangeLaws.{in_range}
use Rattle.laws.proofs.Tests.{neither}
use Rattle.laws.proofs.Stores.{sets_append}
use Rattle.blocks.proofs.DataLaws.{length_data}
use Rattle.rules.specs.declared.Fields.{Fields}
use Rattle.blocks.specs.Letters.{qpl2}
use Rattle.blocks.specs.File.{sealed, data_block, data_from, file_of, file_length}
use Rattle.tables.specs.Law.{allows, law_out}
use Rattle.rules.specs.Rules.{header_rules}
use Rattle.planfile.specs.Writing.{no_faults, write_short, write_refusal_under, write_refusal}
use Rattle.checks.proofs.CheckLaws.{none_when, none_else}
use Rattle.rules.proofs.FieldLaws.{rules_hold}
use Rattle.planfile.proofs.FieldLaws.{writable, entry_small}
use Rattle.planfile.proofs.Back.{length_back}

-- the file stands in front of what the buffer held behind it
pub left_behind : (f : Fields) (settings file : List ℕ) → file_length f.scans ≤ length file
    → sets file 0 (file_of qpl2 f settings) ≡ file_of qpl2 f settings ++ drop (file_length f.scans) file
left_behind f settings file h =
    let w = file_of qpl2 f settings in
    let l = length_back qpl2 f settings in
    sets-eq w file 0 (omega (arith, l, h)) ∙ ap (λ m. w ++ drop m file) (zero-add (length w) ∙ l)

-- where the rules are kept, N is in its range
pub scans_inside : (f : Fields) → first_refusal (header_rules (law_out f.law) no_faults f) ≡ none → (1 ≤ f.scans) × (f.scans ≤ 1024)
scans_inside f e = in_range (neither (scans_out f.scans) false (rules_hold (law_out f.law) no_faults f e).scans).0

-- where the room is enough
pub room_inside : (N settings room : ℕ) → when (write_short N settings room) refusal.Buffer ≡ none → (N ≤ settings) × (file_length N ≤ room)
room_inside N settings room e =
    let t = neither (ltb settings N) (ltb room (file_length N)) (none_when (write_short N settings room) refusal.Buffer e) in
    (ltb-false settings N t.0, ltb-false room (file_length N) t.1)

-- where nothing is refused, N is in its range and there is room for N settings and for the file
pub all_inside : (f : Fields) (settings : List ℕ) (room : ℕ) → write_refusal f settings room ≡ none →
    (f.scans ≤ 1024) × ((f.scans ≤ length settings) × (file_length f.scans ≤ room))
unfolding write_refusal_under
all_inside f settings room e =
    let a = none_else (first_refusal (header_rules (law_out f.law) no_faults f)) _ e in
    let b = none_else (when (write_short f.scans (length settings) room) refusal.Buffer) _ a.1 in
    ((scans_inside f a.0).1, room_inside f.scans (length settings) room b.0)

-- where nothing is refused, every setting fits half a byte
pub settings_small : (f : Fields) (settings : List ℕ) (room : ℕ) → write_refusal f settings room ≡ none → (j : ℕ) → j < f.scans → get_or settings j 0 < 16
settings_small f settings room e j h =
    let t : ltb j f.scans ≡ true = lt-ltb j f.scans h in
    rw (ap (λ b. cond b (get_or settings j 0) 0) t) at (entry_small f settings (writable (law_out f.law) (allows f.law) f settings room e) j)

-- one data block more, from block b on
data_snoc : (version : ℕ) (e : ℕ → ℕ) (b n : ℕ) → data_from version e b n ++ sealed version (data_block e (b + n)) ≡ data_from version e b (suc n)
data_snoc version e b zero = let h : b + 0 ≡ b = omega arith in ap (λ k. sealed version (data_block e k)) h ∙ sym (append-nil (sealed version (data_block e b)))
data_snoc version e b (suc n) =
    let h : b + suc n ≡ suc b + n = omega arith in
    append_assoc (sealed version (data_block e b)) (data_from version e (suc b) n) (sealed version (data_block e (b + suc n)))
    ∙ ap (λ l. sealed version (data_block e b) ++ l) (ap (λ k. data_from version e (suc b) n ++ sealed version (data_block e k)) h ∙ data_snoc version e (suc b) n)

-- one data block more
pub data_more : (version : ℕ) (e : ℕ → ℕ) (n : ℕ) → data_from version e 0 n ++ sealed version (data_block e n) ≡ data_from version e 0 (n + 1)
data_more version e n =
    let z : n ≡ 0 + n = omega arith in
    let s : suc n ≡ n + 1 = omega arith in
    ap (λ k. data_from version e 0 n ++ sealed version (data_block e k)) z ∙ data_snoc version e 0 n ∙ ap (data_from version e 0) s

-- .. put behind those before it
pub put_more : (version : ℕ) (e : ℕ → ℕ) (b : ℕ) (d : List ℕ) {file file' : List ℕ} → file' ≡ sets file (512 * suc b) (sealed version (data_block e b)) →
    file ≡ sets d 512 (data_from version e 0 b) → file' ≡ sets d 512 (data_from version e 0 (b + 1))
put_more version e b d p i =
    p
    ∙ ap (λ x. sets x (512 * suc b) (sealed version (data_block e b))) i
    ∙ sets_append d (data_from version e 0 b) (sealed version (data_block e b)) 512 (512 * suc b) (omega (arith, length_data version b e 0))
    ∙ ap (sets d 512) (data_more version e b)
