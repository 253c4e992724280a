-- Data blocks as they are written. Assumes nothing.
use mathlib.Core.Path.{◌≡◌, refl, sym, ap, ◌∙◌}
use mathlib.Core.Bool.{false}
use mathlib.Core.List.{List, ◌++◌, append_assoc}
use Prim.Native.Nat.{ℕ, zero, suc, ◌+◌, ◌*◌, ◌/◌, ◌%◌, ◌<◌}
use native.Mathlib.Omega.{arith}
use lib.ListN.{length, take, get_or, length-append, get_or-append}
use lib.Seq.{take_at, get_or-append-add}
use Rattle.octets.specs.Bytes.{le, value, half}
use Rattle.blocks.specs.BlockCheck.{check_of}
use Rattle.blocks.specs.File.{sealed, data_block, data_from, pairs, entry_at}
use Rattle.blocks.specs.Blocks.{block_broken}
use Rattle.octets.proofs.NumberLaws.{length_le, value_le}
use Rattle.blocks.proofs.SumLaws.{ByteSum, ◌joins◌, small_le}
use Rattle.blocks.proofs.PairLaws.{half_pair, length_pairs, small_pairs, get_or_pairs}
use Rattle.blocks.proofs.BlockLaws.{length_sealed, block_sound}

-- a data block is 508 bytes
length_data_block : (e : ℕ → ℕ) (b : ℕ) → length (data_block e b) ≡ 508
unfolding data_block
length_data_block e b =
    omega (arith, length-append (le 4 (suc b)) (pairs e (1008 * b) 504), length_le 4 (suc b), length_pairs e (1008 * b) 504)

-- and 512 with its check
length_block : (version : ℕ) (e : ℕ → ℕ) (b : ℕ) → length (sealed version (data_block e b)) ≡ 512
length_block version e b = length_sealed version (data_block e b) (length_data_block e b)

-- n data blocks with their checks are 512 n bytes
pub length_data : (version n : ℕ) (e : ℕ → ℕ) (b : ℕ) → length (data_from version e b n) ≡ 512 * n
length_data version zero e b = refl
length_data version (suc n) e b =
    omega (
      arith,
      length-append (sealed version (data_block e b)) (data_from version e (suc b) n),
      length_block version e b,
      length_data version n e (suc b),
    )

module _ (version : ℕ) (e : ℕ → ℕ) (h : (j : ℕ) → e j < 16) where
  -- a data block is made of bytes
  small_data : (b : ℕ) → ByteSum (data_block e b)
  unfolding data_block
  small_data b = small_le 4 (suc b) joins small_pairs e h (1008 * b) 504

  -- data block b starts with number b + 1
  data_number : (b : ℕ) → b < 1000 → value (take 4 (data_block e b)) ≡ suc b
  unfolding data_block
  data_number b g =
      ap value (take_at (le 4 (suc b)) (pairs e (1008 * b) 504) 4 (length_le 4 (suc b))) ∙ value_le 4 (suc b) (omega arith)

  -- no data block is broken
  pub data_sound : (n b : ℕ) (front : List ℕ) → length front ≡ 512 * suc b → b + n < 1000 → (k : ℕ) → k < n
      → block_broken version (front ++ data_from version e b n) (suc b + k) ≡ false
  data_sound zero b front at g k l = absurd (omega arith)
  data_sound (suc n) b front at g zero l =
      let p : suc b + 0 ≡ suc b = omega arith in
      rw p
      (block_sound version front (data_block e b) (data_from version e (suc b) n) (suc b) at (length_data_block e b) (small_data b)
      (data_number b (omega arith)))
  data_sound (suc n) b front at g (suc k) l =
      let p : suc b + suc k ≡ suc (suc b) + k = omega arith in
      let block : List ℕ = sealed version (data_block e b) in
      let next : length (front ++ block) ≡ 512 * suc (suc b) =
      omega (arith, length-append front block, length_block version e b, at) in
      rw (p, sym (append_assoc front block (data_from version e (suc b) n)))
      (data_sound n (suc b) (front ++ block) next (omega arith) k (omega arith))

-- byte 4 + i of a data block
get_or_block : (version : ℕ) (e : ℕ → ℕ) (b i : ℕ) (rest : List ℕ) → i < 504
    → get_or (sealed version (data_block e b) ++ rest) (4 + i) 0 ≡ e (1008 * b + 2 * i) + 16 * e (suc (1008 * b + 2 * i))
unfolding data_block
get_or_block version e b i rest h =
    let number : List ℕ = le 4 (suc b) in
    let body : List ℕ = number ++ pairs e (1008 * b) 504 in
    let four : length number ≡ 4 = length_le 4 (suc b) in
    let long : length body ≡ 508 = length_data_block e b in
    get_or-append (sealed version body) rest 0 (4 + i) (omega (arith, length_sealed version body long))
    ∙ get_or-append body (le 4 (check_of version body)) 0 (4 + i) (omega arith)
    ∙ ap (λ (k : ℕ). get_or body (k + i) 0) (sym four)
    ∙ get_or-append-add number (pairs e (1008 * b) 504) i 0 ∙ get_or_pairs e (1008 * b) 504 i h

-- byte 4 + i of data block q of n
get_or_data : (version n : ℕ) (e : ℕ → ℕ) (b q i : ℕ) → q < n → i < 504
    → get_or (data_from version e b n) (512 * q + (4 + i)) 0 ≡ e (1008 * (b + q) + 2 * i) + 16 * e (suc (1008 * (b + q) + 2 * i))
get_or_data version zero e b q i g h = absurd (omega arith)
get_or_data version (suc n) e b zero i g h =
    let p : 512 * 0 + (4 + i) ≡ 4 + i = omega arith in
    let r : b + 0 ≡ b = omega arith in
    rw (p, r) (get_or_block version e b i (data_from version e (suc b) n) h)
get_or_data version (suc n) e b (suc q) i g h =
    let block : List ℕ = sealed version (data_block e b) in
    let long : length block ≡ 512 = length_block version e b in
    let p : 512 * suc q + (4 + i) ≡ length block + (512 * q + (4 + i)) = omega (arith, long) in
    let r : b + suc q ≡ suc b + q = omega arith in
    rw (p, r) (get_or-append-add block (data_from version e (suc b) n) (512 * q + (4 + i)) 0 ∙ get_or_data version n e (suc b) q i (omega arith) h)

-- the entries that the data blocks behind block 0 are made of are the entries there
pub entry_there : (version : ℕ) (e : ℕ → ℕ) → ((j : ℕ) → e j < 16) → (block : List ℕ) (n j : ℕ) → length block ≡ 512 → j < 1008 * n
    → entry_at (block ++ data_from version e 0 n) j ≡ e j
entry_there version e h block n j long g =
    let p : 512 * suc (j / 1008) + 4 + j % 1008 / 2 ≡ length block + (512 * (j / 1008) + (4 + j % 1008 / 2)) = omega (arith, long) in
    let m : 1008 * (0 + j / 1008) + 2 * (j % 1008 / 2) + j % 2 ≡ j = omega arith in
    ap (λ (k : ℕ). half (get_or (block ++ data_from version e 0 n) k 0) (j % 2)) p
    ∙ ap (λ (b : ℕ). half b (j % 2))
    (get_or-append-add block (data_from version e 0 n) (512 * (j / 1008) + (4 + j % 1008 / 2)) 0
    ∙ get_or_data version n e 0 (j / 1008) (j % 1008 / 2) (omega (arith, g)) (omega arith))
    ∙ half_pair e h (j % 2) (1008 * (0 + j / 1008) + 2 * (j % 1008 / 2)) (omega arith) ∙ ap e m
