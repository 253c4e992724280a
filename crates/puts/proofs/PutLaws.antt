-- A file as it is written: what is stored part after part, a block with its check, and the entries one by one. Assumes nothing.
use mathlib.Core.Path.{◌≡◌, refl, sym, ap, ◌∙◌}
use mathlib.Core.List.{List, ◌++◌}
use Prim.Native.Nat.{ℕ, suc, ◌+◌, ◌*◌, ◌≤◌}
use native.Mathlib.Omega.{arith}
use native.Mathlib.Numerals.{add-one}
use lib.ListN.{length, replicate, length-append, length-replicate}
use lib.Seq.{sets}
use Rattle.rules.specs.declared.Fields.{Fields}
use Rattle.octets.specs.Bytes.{le, part}
use Rattle.blocks.specs.BlockCheck.{check_of}
use Rattle.blocks.specs.Letters.{letters}
use Rattle.blocks.specs.File.{header, sealed, data_block, pairs}
use Rattle.laws.proofs.Stores.{sets_append}
use Rattle.octets.proofs.PartLaws.{part_sets}
use Rattle.octets.proofs.NumberLaws.{length_le}
use Rattle.blocks.proofs.PairLaws.{length_pairs}

-- the file is d with the n bytes l stored at `at`
pub record Stored (d : List ℕ) (at : ℕ) (l : List ℕ) (n : ℕ) (file : List ℕ) : Type 0 where
  pub so : file ≡ sets d at l
  pub long : length l ≡ n

-- k bytes m are stored right behind them
pub next : {d l file after : List ℕ} {at n k : ℕ} (to : ℕ) (m : List ℕ) → Stored d at l n file → after ≡ sets file to m → length m ≡ k
    → to ≡ at + n → Stored d at (l ++ m) (n + k) after
next {d} {l} {file} {after} {at} {n} {k} to m s e h p = record {
  so = e ∙ ap (λ (x : List ℕ). sets x to m) s.so ∙ sets_append d l m at to (p ∙ ap (λ (i : ℕ). at + i) (sym s.long));
  long = omega (arith, length-append l m, s.long, h);
}

-- the check of 508 bytes that are stored is stored behind them
pub with_check : (version : ℕ) (d l file after : List ℕ) (at : ℕ) → at + 508 ≤ length d → Stored d at l 508 file
    → after ≡ sets file (at + 508) (le 4 (check_of version (part at 508 file))) → after ≡ sets d at (sealed version l)
with_check version d l file after at h s e =
    let p : part at 508 file ≡ l =
    ap (part at 508) s.so ∙ ap (λ (k : ℕ). part at k (sets d at l)) (sym s.long) ∙ part_sets d l at (omega (arith, s.long)) in
    (next (at + 508) (le 4 (check_of version l)) s (e ∙ ap (λ (b : List ℕ). sets file (at + 508) (le 4 (check_of version b))) p)
    (length_le 4 (check_of version l)) refl).so

-- the fields of block 0, one after the other
pub header_stored : (version : ℕ) (f : Fields) (d a b c e g h i j k l m n o p q r : List ℕ)
    → a ≡ sets d 0 (le 4 0) → b ≡ sets a 4 (letters version)
    → c ≡ sets b 8 (le 2 f.scans) → e ≡ sets c 10 (le 1 f.settings) → g ≡ sets e 11 (le 1 f.law) → h ≡ sets g 12 (le 1 f.kind)
    → i ≡ sets h 13 (le 1 f.weighted) → j ≡ sets i 14 (replicate 2 0) → k ≡ sets j 16 (le 8 f.budget) → l ≡ sets k 24 (le 4 f.n)
    → m ≡ sets l 28 (le 4 f.d) → n ≡ sets m 32 (le 4 f.rate.0) → o ≡ sets n 36 (le 4 f.distortion.0) → p ≡ sets o 40 (le 4 f.peak)
    → q ≡ sets p 44 (le 4 f.floor.0) → r ≡ sets q 48 (replicate 460 0) → Stored d 0 (header version f) 508 r
unfolding header
header_stored version f d a b c e g h i j k l m n o p q r e0 e1 e2 e3 e4 e5 e6 e7 e8 e9 e10 e11 e12 e13 e14 e15 =
    let s0 : Stored d 0 (le 4 0) 4 a = record { so = e0; long = length_le 4 0 } in
    let s1 = next {k = 4} 4 (letters version) s0 e1 refl refl in
    let s2 = next 8 (le 2 f.scans) s1 e2 (length_le 2 _) refl in
    let s3 = next 10 (le 1 f.settings) s2 e3 (length_le 1 _) refl in
    let s4 = next 11 (le 1 f.law) s3 e4 (length_le 1 _) refl in
    let s5 = next 12 (le 1 f.kind) s4 e5 (length_le 1 _) refl in
    let s6 = next 13 (le 1 f.weighted) s5 e6 (length_le 1 _) refl in
    let s7 = next 14 (replicate 2 0) s6 e7 (length-replicate {A = ℕ} 2 0) refl in
    let s8 = next 16 (le 8 f.budget) s7 e8 (length_le 8 _) refl in
    let s9 = next 24 (le 4 f.n) s8 e9 (length_le 4 _) refl in
    let s10 = next 28 (le 4 f.d) s9 e10 (length_le 4 _) refl in
    let s11 = next 32 (le 4 f.rate.0) s10 e11 (length_le 4 _) refl in
    let s12 = next 36 (le 4 f.distortion.0) s11 e12 (length_le 4 _) refl in
    let s13 = next 40 (le 4 f.peak) s12 e13 (length_le 4 _) refl in
    let s14 = next 44 (le 4 f.floor.0) s13 e14 (length_le 4 _) refl in
    next 48 (replicate 460 0) s14 e15 (length-replicate {A = ℕ} 460 0) refl

-- the number of data block b, its entries and its check
pub data_stored : (version : ℕ) (e : ℕ → ℕ) (b : ℕ) (d numbered filled after : List ℕ) → 512 * suc b + 512 ≤ length d
    → numbered ≡ sets d (512 * (b + 1)) (le 4 (b + 1)) → filled ≡ sets numbered (512 * suc b + 4) (pairs e (1008 * b) 504)
    → after ≡ sets filled (512 * (b + 1) + 508) (le 4 (check_of version (part (512 * (b + 1)) 508 filled)))
    → after ≡ sets d (512 * suc b) (sealed version (data_block e b))
unfolding data_block
data_stored version e b d numbered filled after h p q r =
    let first : Stored d (512 * suc b) (le 4 (suc b)) 4 numbered =
    record { so = p ∙ ap (λ (k : ℕ). sets d (512 * k) (le 4 k)) (add-one b); long = length_le 4 (suc b) } in
    with_check version d (le 4 (suc b) ++ pairs e (1008 * b) 504) filled after (512 * suc b) (omega arith)
    (next (512 * suc b + 4) (pairs e (1008 * b) 504) first q (length_pairs e (1008 * b) 504) refl)
    (r ∙ ap (λ (k : ℕ). sets filled (512 * k + 508) (le 4 (check_of version (part (512 * k) 508 filled)))) (add-one b))
