-- The entries of a data block, stored one by one. Assumes nothing.
use Rattle.laws.proofs.Tests.{cases}
use Rattle.blocks.proofs.PairLaws.{pairs_same, pairs_zero, pairs_set, length_pairs, get_or_pairs}
use Rattle.octets.proofs.HalfLaws.{low_half, high_half}
use Rattle.octets.proofs.PartLaws.{get_inside}
use Rattle.laws.proofs.Stores.{set_inside}
use mathlib.Core.Path.{◌≡◌, refl, sym, ap, ◌∙◌}
use mathlib.Core.Logic.{◌≢◌}
use mathlib.Core.Bool.{cond}
use mathlib.Core.List.{List}
use Prim.Native.Nat.{ℕ, suc, ◌+◌, ◌*◌, ◌-◌, ◌/◌, ◌%◌, ◌≤◌, ◌<◌}
use native.Mathlib.Omega.{arith}
use lib.Dec.{ltb}
use lib.ListN.{length, get_or, set, replicate}
use lib.Seq.{sets}
use borrow.Author.Tests.{lt-ltb, le-ltb}
use Rattle.octets.specs.Bytes.{with_half}
use Rattle.blocks.specs.File.{pairs}
use Rattle.blocks.specs.Packed.{place_of}

-- the entries before j, and zero from there on
unfoldable pub so_far : (ℕ → ℕ) → ℕ → ℕ → ℕ
so_far e j i = cond (ltb i j) (e i) 0

-- an entry before j is the entry
so_far_before : (e : ℕ → ℕ) (j i : ℕ) → i < j → so_far e j i ≡ e i
unfolding so_far
so_far_before e j i h = rw (lt-ltb i j h) refl

-- and one from j on is zero
so_far_behind : (e : ℕ → ℕ) (j i : ℕ) → j ≤ i → so_far e j i ≡ 0
unfolding so_far
so_far_behind e j i h = rw (le-ltb i j h) refl

-- entry j more, and no other
so_far_other : (e : ℕ → ℕ) (j i : ℕ) → i ≢ j → so_far e j i ≡ so_far e (suc j) i
so_far_other e j i ne =
    cases i j
    (λ h. so_far_before e j i h ∙ sym (so_far_before e (suc j) i (omega arith)))
    (λ h. so_far_behind e j i h ∙ sym (so_far_behind e (suc j) i (omega (arith, ne))))

-- entries of four bits
so_far_small : (e : ℕ → ℕ) → ((i : ℕ) → e i < 16) → (j i : ℕ) → so_far e j i < 16
so_far_small e h j i =
    cases i j (λ a. omega (arith, so_far_before e j i a, h i)) (λ a. omega (arith, so_far_behind e j i a))

-- d with the entries of block b before j, and zero from there on
unfoldable pub entered : List ℕ → (ℕ → ℕ) → ℕ → ℕ → List ℕ
entered d e b j = sets d (512 * suc b + 4) (pairs (so_far e j) (1008 * b) 504)

-- before the first entry
pub entered_none : (d : List ℕ) (e : ℕ → ℕ) (b : ℕ) → sets d (512 * suc b + 4) (replicate 504 0) ≡ entered d e b (1008 * b)
unfolding entered
entered_none d e b =
    ap (sets d (512 * suc b + 4)) (pairs_zero (so_far e (1008 * b)) (1008 * b) 504 (λ k h. so_far_behind e (1008 * b) k h))

-- after the last
pub entered_all : (d : List ℕ) (e : ℕ → ℕ) (b j : ℕ) → ((k : ℕ) → j ≤ k → k < 1008 * suc b → e k ≡ 0)
    → entered d e b j ≡ sets d (512 * suc b + 4) (pairs e (1008 * b) 504)
unfolding entered
entered_all d e b j zeros =
    ap (sets d (512 * suc b + 4))
    (pairs_same (so_far e j) e (1008 * b) 504 (λ k a g.
    cases k j (λ h. so_far_before e j k h) (λ h. so_far_behind e j k h ∙ sym (zeros k h (omega arith)))))

-- the byte of entry j with the entry
byte_more : (e : ℕ → ℕ) → ((i : ℕ) → e i < 16) → (j m : ℕ) → m % 2 ≡ 0 → m ≤ j → j < m + 2
    → with_half (so_far e j m + 16 * so_far e j (suc m)) (j % 2) (e j) ≡ so_far e (suc j) m + 16 * so_far e (suc j) (suc m)
byte_more e small j m even a g = cases m j odd_one even_one
  where
    even_one : j ≤ m → with_half (so_far e j m + 16 * so_far e j (suc m)) (j % 2) (e j) ≡ so_far e (suc j) m + 16 * so_far e (suc j) (suc m)
    even_one h =
        let p : j ≡ m = omega (arith, a, h) in
        let r : j % 2 ≡ 0 = omega (arith, p, even) in
        let u : so_far e (suc j) m ≡ e j = so_far_before e (suc j) m (omega arith) ∙ ap e (sym p) in
        let w : so_far e j (suc m) ≡ so_far e (suc j) (suc m) = so_far_other e j (suc m) (λ z. absurd (omega (arith, z, p))) in
        low_half (so_far e j m) (so_far e j (suc m)) (e j) (j % 2) (so_far_small e small j m) r
        ∙ omega (arith, u, w)

    odd_one : m < j → with_half (so_far e j m + 16 * so_far e j (suc m)) (j % 2) (e j) ≡ so_far e (suc j) m + 16 * so_far e (suc j) (suc m)
    odd_one h =
        let p : j ≡ suc m = omega (arith, g, h) in
        let r : j % 2 ≡ 1 = omega (arith, p, even) in
        let u : so_far e (suc j) (suc m) ≡ e j = so_far_before e (suc j) (suc m) (omega arith) ∙ ap e (sym p) in
        let w : so_far e j m ≡ so_far e (suc j) m = so_far_other e j m (λ z. absurd (omega (arith, z, p))) in
        high_half (so_far e j m) (so_far e j (suc m)) (e j) (j % 2) (so_far_small e small j m) r
        ∙ omega (arith, u, w)

-- one entry more
pub entered_more : (d : List ℕ) (e : ℕ → ℕ) → ((i : ℕ) → e i < 16) → (b j : ℕ) → 512 * suc b + 512 ≤ length d → 1008 * b ≤ j
    → j < 1008 * suc b
    → set (entered d e b j) (place_of j) (with_half (get_or (entered d e b j) (place_of j) 0) (j % 2) (e j)) ≡ entered d e b (suc j)
unfolding entered
entered_more d e small b j long a g = more (j / 2 - 504 * b) (omega arith) (omega arith) (omega arith)
  where
    more : (i : ℕ) → i < 504 → place_of j ≡ 512 * suc b + 4 + i → j / 2 ≡ 504 * b + i
        → set (entered d e b j) (place_of j) (with_half (get_or (entered d e b j) (place_of j) 0) (j % 2) (e j)) ≡ entered d e b (suc j)
    more i h p q =
        let at : ℕ = 512 * suc b + 4 in
        let l : List ℕ = pairs (so_far e j) (1008 * b) 504 in
        let n : length l ≡ 504 = length_pairs (so_far e j) (1008 * b) 504 in
        let m : ℕ = 1008 * b + 2 * i in
        let there : get_or (sets d at l) (at + i) 0 ≡ so_far e j m + 16 * so_far e j (suc m) =
        get_inside d l at i (omega (arith, n)) (omega (arith, n)) ∙ get_or_pairs (so_far e j) (1008 * b) 504 i h in
        let x : ℕ = with_half (get_or (sets d at l) (at + i) 0) (j % 2) (e j) in
        let byte : x ≡ so_far e (suc j) m + 16 * so_far e (suc j) (suc m) =
        ap (λ (y : ℕ). with_half y (j % 2) (e j)) there ∙ byte_more e small j m (omega arith) (omega arith) (omega arith) in
        ap (λ (k : ℕ). set (sets d at l) k (with_half (get_or (sets d at l) k 0) (j % 2) (e j))) p
        ∙ set_inside d l at i x (omega (arith, n))
        ∙ ap (sets d at)
        (pairs_set (so_far e j) (so_far e (suc j)) (1008 * b) 504 i x h byte (λ k u w.
        so_far_other e j k (λ z. absurd (omega (arith, u, w, z, q)))))
