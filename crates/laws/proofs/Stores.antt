-- Bytes that are stored part after part. Assumes nothing.
use mathlib.Core.Path.{◌≡◌, refl}
use mathlib.Core.List.{List, [], ◌∷◌, ◌++◌}
use Prim.Native.Nat.{ℕ, suc, ◌+◌}
use native.Mathlib.Omega.{arith}
use lib.ListN.{length, set}
use lib.Seq.{sets}
use mathlib.Core.Path.{sym, ap, ◌∙◌}
use Prim.Native.Nat.{zero, ◌<◌}
use native.Mathlib.Numerals.{add-one}
use lib.ListN.{get_or, replicate}
use lib.Seq.{set-set, set_comm}
use lib.ListN.{take, replicate-append-replicate}
use lib.Seq.{length-take-le}
use Prim.Native.Nat.{◌≤◌}
use lib.ListN.{drop, length-replicate}
use lib.Seq.{take-suc, sets-eq}

-- what is stored right after l is stored with it
pub sets_append : (d l m : List ℕ) (at to : ℕ) → to ≡ at + length l → sets (sets d at l) to m ≡ sets d at (l ++ m)
sets_append d [] m at to e = let h : to ≡ at = omega (arith, e) in rw h refl
sets_append d (a ∷ l) m at to e = sets_append (set d at a) l m (suc at) to (omega (arith, e))

-- a store before the others may be done first
set_first : (d l : List ℕ) (k to x : ℕ) → k < to → set (sets d to l) k x ≡ sets (set d k x) to l
set_first d [] k to x h = refl
set_first d (a ∷ l) k to x h =
    set_first (set d to a) l k (suc to) x (omega arith)
    ∙ ap (λ (s : List ℕ). sets s (suc to) l) (set_comm d to k a x (λ e. absurd (omega (arith, e))))

-- byte i of those that are stored is stored anew
pub set_inside : (d l : List ℕ) (at i x : ℕ) → i < length l → set (sets d at l) (at + i) x ≡ sets d at (set l i x)
set_inside d [] at i x h = absurd (omega arith)
set_inside d (a ∷ l) at zero x h =
    let p : at + 0 ≡ at = omega arith in
    rw p (set_first (set d at a) l at (suc at) x (omega arith) ∙ ap (λ (s : List ℕ). sets s (suc at) l) (set-set d at a x))
set_inside d (a ∷ l) at (suc i) x h =
    let p : at + suc i ≡ suc at + i = omega arith in
    rw p (set_inside (set d at a) l (suc at) i x (omega arith))

-- one more byte
pub sets_snoc : (d l : List ℕ) (at to x : ℕ) → to ≡ at + length l → set (sets d at l) to x ≡ sets d at (l ++ (x ∷ []))
sets_snoc d l at to x e = sets_append d l (x ∷ []) at to e

-- one more zero
pub zeros_snoc : (k : ℕ) → ◌++◌ {A = ℕ} (replicate k 0) (0 ∷ []) ≡ replicate (suc k) 0
zeros_snoc k = let e : k + 1 ≡ suc k = omega arith in replicate-append-replicate k 1 0 ∙ ap (λ (n : ℕ). replicate {A = ℕ} n 0) e

-- one byte more of a text that is copied
pub copied_more : (d s : List ℕ) (at i : ℕ) → i < length s → set (sets d at (take i s)) (at + i) (get_or s i 0) ≡ sets d at (take (i + 1) s)
copied_more d s at i h =
    sets_append d (take i s) (get_or s i 0 ∷ []) at (at + i) (ap (λ (n : ℕ). at + n) (sym (length-take-le i s (omega arith))))
    ∙ ap (sets d at) (sym (take-suc s i 0 h) ∙ ap (λ (n : ℕ). take n s) (sym (add-one i)))

-- zeros from the front on
pub zeros_front : (k : ℕ) (s : List ℕ) → k ≤ length s → sets s 0 (replicate k 0) ≡ replicate k 0 ++ drop k s
zeros_front k s h =
    let n : length (replicate {A = ℕ} k 0) ≡ k = length-replicate k 0 in
    let m : 0 + length (replicate {A = ℕ} k 0) ≡ k = omega (arith, n) in
    sets-eq (replicate k 0) s 0 (omega (arith, n)) ∙ ap (λ (i : ℕ). replicate k 0 ++ drop i s) m
