-- The entries of a file, one after another. Assumes nothing.
use mathlib.Core.Path.{◌≡◌, refl, sym, ap, ◌∙◌}
use mathlib.Core.List.{List, [], ◌∷◌, ◌++◌, append_assoc}
use Prim.Native.Nat.{ℕ, zero, suc, ◌+◌, ◌≤◌, ◌<◌}
use native.Mathlib.Omega.{arith}
use lib.ListN.{length, get_or, set, drop}
use lib.Seq.{ext_get_or, set-append_seam}
use Rattle.std.proofs.lemmas.List.{drop_more}
use Rattle.octets.specs.Bytes.{part}
use Rattle.octets.proofs.PartLaws.{part_length, part_get}
use Rattle.planfile.specs.Reading.{entries}

-- one entry more
snoc_from : (e : ℕ → ℕ) (i n : ℕ) → entries e i n ++ (e (i + n) ∷ []) ≡ entries e i (suc n)
snoc_from e i zero = let h : i + 0 ≡ i = omega arith in ap (λ k. e k ∷ []) h
snoc_from e i (suc n) = let h : i + suc n ≡ suc i + n = omega arith in ap (λ l. e i ∷ l) (ap (λ k. entries e (suc i) n ++ (e k ∷ [])) h ∙ snoc_from e (suc i) n)

entries_snoc : (e : ℕ → ℕ) (n : ℕ) → entries e 0 n ++ (e n ∷ []) ≡ entries e 0 (n + 1)
entries_snoc e n =
    let z : n ≡ 0 + n = omega arith in
    let s : suc n ≡ n + 1 = omega arith in
    ap (λ k. entries e 0 n ++ (e k ∷ [])) z ∙ snoc_from e 0 n ∙ ap (entries e 0) s

-- n entries make a list of length n
pub length_entries : (e : ℕ → ℕ) (j n : ℕ) → length (entries e j n) ≡ n
length_entries e j zero = refl
length_entries e j (suc n) = ap suc (length_entries e (suc j) n)

-- the first j entries stand before the settings from j on, and entry j is handed over
pub entries_more : (e : ℕ → ℕ) (s : List ℕ) (j : ℕ) → j < length s → set (entries e 0 j ++ drop j s) j (e j) ≡ entries e 0 (j + 1) ++ drop (j + 1) s
entries_more e s j h =
    let x = get_or s j 0 in
    let rest = drop (j + 1) s in
    ap (λ l. set (entries e 0 j ++ l) j (e j)) (drop_more s j 0 h)
    ∙ ap (λ k. set (entries e 0 j ++ (x ∷ rest)) k (e j)) (sym (length_entries e 0 j))
    ∙ set-append_seam (entries e 0 j) x rest (e j)
    ∙ sym (append_assoc (entries e 0 j) (e j ∷ []) rest)
    ∙ ap (λ l. l ++ rest) (entries_snoc e j)

-- entry i of the list is the one i after the first
pub get_or_entries : (e : ℕ → ℕ) (j n i : ℕ) → i < n → get_or (entries e j n) i 0 ≡ e (j + i)
get_or_entries e j zero i h = absurd (omega arith)
get_or_entries e j (suc n) zero h = ap e (omega arith)
get_or_entries e j (suc n) (suc i) h = get_or_entries e (suc j) n i (omega arith) ∙ ap e (omega arith)

-- entries that are, one by one, those of a part are the part
pub entries_part : (e : ℕ → ℕ) (l : List ℕ) (n j at : ℕ) → at + n ≤ length l
    → ((i : ℕ) → i < n → e (j + i) ≡ get_or l (at + i) 0) → entries e j n ≡ part at n l
entries_part e l n j at h same =
    ext_get_or 0 (entries e j n) (part at n l) (length_entries e j n ∙ sym (part_length at n l h)) each
  where
    each : (i : ℕ) → i < length (entries e j n) → get_or (entries e j n) i 0 ≡ get_or (part at n l) i 0
    each i g =
        let b : i < n = omega (arith, g, length_entries e j n) in
        get_or_entries e j n i b ∙ same i b ∙ sym (part_get at n l i b)
