-- The two halves of a byte, as the code reads and stores them. Assumes nothing.
use mathlib.Core.Path.{◌≡◌, refl, sym, ap, ◌∙◌}
use Prim.Native.Nat.{ℕ, zero, suc, ◌+◌, ◌*◌, ◌/◌, ◌%◌, ◌^◌, ◌<◌}
use native.Mathlib.Omega.{arith}
use lib.Bits.{bit_and, bit_or, and_mask, and_high, or_shifted, or_shifted_r}
use borrow.Author.Tests.{eq-eqb, ne_eqb}
use Rattle.octets.specs.Bytes.{half, with_half}

-- a shift by four for each half is a power of 16
by_four : (m : ℕ) → m < 2 → 2 ^ (4 * m) ≡ 16 ^ m
by_four zero h = refl
by_four (suc zero) h = refl
by_four (suc (suc m)) h = absurd (omega arith)

-- the lowest bit is the remainder by 2
odd : (k : ℕ) → bit_and k 1 ≡ k % 2
odd k = and_mask k 1

-- what the shift and the mask read
pub half_read : (b k : ℕ) → bit_and (b / 2 ^ (4 * bit_and k 1)) 15 ≡ half b (k % 2)
unfolding half
half_read b k =
    and_mask (b / 2 ^ (4 * bit_and k 1)) 4
    ∙ ap (λ (n : ℕ). b / n % 16) (ap (λ (m : ℕ). 2 ^ (4 * m)) (odd k) ∙ by_four (k % 2) (omega arith))

-- a half is of four bits
pub half_small : (b m : ℕ) → half b m < 16
unfolding half
half_small b m = omega arith

-- what is stored for an even entry, and for an odd one
pub low_stored : (b k v : ℕ) → b < 256 → v < 16 → bit_and k 1 ≡ 0 → bit_or (bit_and b 240) v ≡ with_half b (k % 2) v
unfolding with_half
low_stored b k v hb hv e =
    rw (eq-eqb (k % 2) 0 (sym (odd k) ∙ e))
    (ap (λ (n : ℕ). bit_or n v) (and_high b 4 4) ∙ or_shifted (b / 16 % 16) 4 v hv ∙ omega arith)

pub high_stored : (b k v : ℕ) → v < 16 → (bit_and k 1 ≡ 0 → ⊥) → bit_or (bit_and b 15) (v * 16 % 256) ≡ with_half b (k % 2) v
unfolding with_half
high_stored b k v hv ne =
    let e : v * 16 % 256 ≡ v * 16 = omega arith in
    rw (ne_eqb (k % 2) 0 (λ z. ne (odd k ∙ z)))
    (rw (e, and_mask b 4) (or_shifted_r v 4 (b % 16) (omega arith)))

-- a byte is its two halves
pub halves : (b : ℕ) → b < 256 → half b 0 + 16 * half b 1 ≡ b
unfolding half
halves b h = omega arith

-- an even entry becomes the low half of its byte
pub low_half : (b0 b1 v r : ℕ) → b0 < 16 → r ≡ 0 → with_half (b0 + 16 * b1) r v ≡ v + 16 * b1
unfolding with_half
low_half b0 b1 v r h e = rw (eq-eqb r 0 e) (omega arith)

-- and an odd one the high half
pub high_half : (b0 b1 v r : ℕ) → b0 < 16 → r ≡ 1 → with_half (b0 + 16 * b1) r v ≡ b0 + 16 * v
unfolding with_half
high_half b0 b1 v r h e = rw (ne_eqb r 0 (λ z. absurd (omega (arith, z, e)))) (omega arith)
