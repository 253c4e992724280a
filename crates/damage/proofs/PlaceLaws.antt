-- Where a byte of a file is stored anew: what is a part of the file then. Assumes nothing.
use mathlib.Core.Path.{◌≡◌, sym, ◌∙◌}
use mathlib.Core.Logic.{◌≢◌}
use mathlib.Core.List.{List}
use Prim.Native.Nat.{ℕ, ◌+◌, ◌≤◌, ◌<◌}
use native.Mathlib.Decide.{ℕ_discrete}
use native.Mathlib.Omega.{arith}
use lib.ListN.{length, get_or, set, length-set}
use lib.Seq.{ext_get_or, get_or-set_same, get_or-set_other}
use Rattle.octets.specs.Bytes.{part}
use Rattle.octets.proofs.PartLaws.{part_length, part_get}

-- two files of one length that agree from `at` on for n bytes have the same part there
pub same_part : (file file' : List ℕ) (at n : ℕ) → length file' ≡ length file → at + n ≤ length file
    → ((i : ℕ) → i < n → get_or file' (at + i) 0 ≡ get_or file (at + i) 0) → part at n file' ≡ part at n file
same_part file file' at n e h same =
    ext_get_or 0 (part at n file') (part at n file) (long ∙ sym (part_length at n file h))
    (λ i g. let b : i < n = omega (arith, g, long) in part_get at n file' i b ∙ same i b ∙ sym (part_get at n file i b))
  where
    long : length (part at n file') ≡ n
    long = part_length at n file' (omega (arith, e))

-- a byte outside of a part leaves it
pub outside : (file : List ℕ) (at n p v : ℕ) → at + n ≤ length file → ((i : ℕ) → i < n → p ≢ at + i) → part at n (set file p v) ≡ part at n file
outside file at n p v h other =
    same_part file (set file p v) at n (length-set file p v) h (λ i g. get_or-set_other file p (at + i) v 0 (λ z. other i g (sym z)))

-- one inside is stored in it
pub inside : (file : List ℕ) (at n k v : ℕ) → at + n ≤ length file → k < n → part at n (set file (at + k) v) ≡ set (part at n file) k v
inside file at n k v h g =
    ext_get_or 0 (part at n (set file (at + k) v)) (set (part at n file) k v)
    (long ∙ sym (length-set (part at n file) k v ∙ part_length at n file h)) (λ i l. each i (omega (arith, l, long)))
  where
    long : length (part at n (set file (at + k) v)) ≡ n
    long = part_length at n (set file (at + k) v) (omega (arith, length-set file (at + k) v))

    each : (i : ℕ) → i < n → get_or (part at n (set file (at + k) v)) i 0 ≡ get_or (set (part at n file) k v) i 0
    each i l = part_get at n (set file (at + k) v) i l ∙ at_place (ℕ_discrete i k)
      where
        at_place : Dec (i ≡ k) → get_or (set file (at + k) v) (at + i) 0 ≡ get_or (set (part at n file) k v) i 0
        at_place (yes z) =
            rw z (get_or-set_same file (at + k) v 0 (omega arith) ∙ sym (get_or-set_same (part at n file) k v 0 (omega (arith, part_length at n file h, g))))
        at_place (no z) =
            get_or-set_other file (at + k) (at + i) v 0 (λ w. z (omega (arith, w)))
            ∙ sym (part_get at n file i l)
            ∙ sym (get_or-set_other (part at n file) k i v 0 z)
