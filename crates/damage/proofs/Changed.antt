-- Document 02, [4]: in a QPL2 file any one changed byte among a block's 508, and any exchange of two unequal ones, is refused with 12 at that
-- block, the letters included. Assumes nothing.
use mathlib.Core.Path.{◌≡◌, sym, ap, ◌∙◌}
use mathlib.Core.Logic.{◌≢◌}
use mathlib.Core.Option.{none}
use mathlib.Core.List.{List}
use Prim.Native.Nat.{ℕ, ◌+◌, ◌*◌, ◌/◌, ◌<◌}
use native.Mathlib.Omega.{arith}
use lib.ListN.{length, get_or, set, length-set}
use lib.Seq.{get_or-set_other}
use Rattle.tables.specs.declared.refusal.Refusal.TheVariants as refusal
use Rattle.checks.specs.Checks.{when}
use Rattle.checks.proofs.CheckLaws.{none_else, none_when}
use Rattle.rules.specs.declared.Fields.{Fields}
use Rattle.octets.specs.Bytes.{part}
use Rattle.octets.proofs.PartLaws.{part_length, part_get}
use Rattle.blocks.specs.Letters.{qpl2, version_of}
use Rattle.blocks.specs.File.{file_of}
use Rattle.blocks.specs.Blocks.{length_out}
use Rattle.blocks.proofs.LetterLaws.{qpl2_known}
use Rattle.planfile.specs.Reading.{read_refusal_under, read_refusal}
use Rattle.planfile.specs.Writing.{write_refusal}
use Rattle.planfile.proofs.Back.{length_sound, version_back, sound_back}
use Rattle.planfile.proofs.Accepted.{passed}
use Rattle.damage.specs.Damage.{Qpl2File, Among, place, changed, exchanged, RefusedAt}
use Rattle.damage.proofs.SoundLaws.{own_letters}
use Rattle.damage.proofs.TiltLaws.{sum_set, changed_tilt, sum_below, tilt_over, exchanged_sum, exchanged_tilt}
use Rattle.damage.proofs.PlaceLaws.{outside, inside}
use Rattle.damage.proofs.Refused.{Damaged, damaged_refused}

module _ (file : List ℕ) (good : Qpl2File file) (b : ℕ) (h : b < length file / 512) where
  -- the block's 508 bytes
  abbrev body : List ℕ
  body = part (512 * b) 508 file

  body_length : length body ≡ 508
  body_length = part_length (512 * b) 508 file (omega arith)

  -- the first letter, in block 0
  first_letter : b ≡ 0 → get_or body 4 0 ≡ 81
  first_letter z =
      let four : 512 * b + 4 ≡ 4 + 0 = omega (arith, z) in
      part_get (512 * b) 508 file 4 (omega arith)
      ∙ ap (λ (i : ℕ). get_or file i 0) four
      ∙ sym (part_get 4 4 file 0 (omega arith))
      ∙ sym (ap (λ (l : List ℕ). get_or l 0 0) (own_letters qpl2 file good qpl2_known))

  -- what one changed byte does
  damaged_by_change : (k v : ℕ) → k < 508 → v < 256 → v ≢ get_or file (512 * b + k) 0 → Damaged file b (changed b k v file)
  damaged_by_change k v g small other =
      let there : get_or body k 0 ≡ get_or file (512 * b + k) 0 = part_get (512 * b) 508 file k g in
      let within : k < length body = omega (arith, body_length, g) in
      let new : part (512 * b) 508 (changed b k v file) ≡ set body k v = inside file (512 * b) 508 k v (omega arith) g in
      record {
        long = length-set file (512 * b + k) v;
        before = λ i l. get_or-set_other file (512 * b + k) i v 0 (λ e. absurd (omega (arith, e)));
        stored = outside file (512 * b + 508) 4 (512 * b + k) v (omega arith) (λ i l e. absurd (omega (arith, e)));
        tilted = rw new (changed_tilt 508 body k v within (omega (arith, body_length)) (λ e. other (e ∙ there)));
        light = λ z. rw new (omega (
          arith,
          sum_set body k v within,
          tilt_over 508 body 4 (omega (arith, body_length)) (omega (arith, body_length)),
          first_letter z,
        ));
      }

  -- and what an exchange does
  damaged_by_exchange : (j k : ℕ) → j < 508 → k < 508 → get_or file (512 * b + j) 0 ≢ get_or file (512 * b + k) 0 → Damaged file b (exchanged b j k file)
  damaged_by_exchange j k g l unequal =
      let p : get_or body j 0 ≡ get_or file (512 * b + j) 0 = part_get (512 * b) 508 file j g in
      let q : get_or body k 0 ≡ get_or file (512 * b + k) 0 = part_get (512 * b) 508 file k l in
      let first : List ℕ = changed b j (get_or file (512 * b + k) 0) file in
      let long : length first ≡ length file = length-set file (512 * b + j) (get_or file (512 * b + k) 0) in
      let within_j : j < length body = omega (arith, body_length, g) in
      let within_k : k < length body = omega (arith, body_length, l) in
      let differ : get_or body j 0 ≢ get_or body k 0 = λ e. unequal (sym p ∙ e ∙ q) in
      let new : part (512 * b) 508 (exchanged b j k file) ≡ set (set body j (get_or body k 0)) k (get_or body j 0) =
      inside first (512 * b) 508 k (get_or file (512 * b + j) 0) (omega (arith, long)) l
      ∙ ap (λ (t : List ℕ). set t k (get_or file (512 * b + j) 0)) (inside file (512 * b) 508 j (get_or file (512 * b + k) 0) (omega arith) g)
      ∙ ap (λ (x : ℕ). set (set body j x) k (get_or file (512 * b + j) 0)) (sym q)
      ∙ ap (set (set body j (get_or body k 0)) k) (sym p) in
      record {
        long = length-set first (512 * b + k) (get_or file (512 * b + j) 0) ∙ long;
        before = λ i m.
            get_or-set_other first (512 * b + k) i (get_or file (512 * b + j) 0) 0 (λ e. absurd (omega (arith, e)))
            ∙ get_or-set_other file (512 * b + j) i (get_or file (512 * b + k) 0) 0 (λ e. absurd (omega (arith, e)));
        stored =
            outside first (512 * b + 508) 4 (512 * b + k) (get_or file (512 * b + j) 0) (omega (arith, long)) (λ i m e. absurd (omega (arith, e)))
            ∙ outside file (512 * b + 508) 4 (512 * b + j) (get_or file (512 * b + k) 0) (omega arith) (λ i m e. absurd (omega (arith, e)));
        tilted = rw new (exchanged_tilt body j k within_j within_k differ 508 (omega (arith, body_length)));
        light = λ z. rw new (omega (arith, exchanged_sum body j k within_j within_k differ, sum_below 508 body (omega (arith, body_length))));
      }

-- Any one byte among a block's 508 of a QPL2 file changed to any other value: the reader gives 12 at exactly that block, whatever is lent to it.
pub changed_byte : (file : List ℕ) → Qpl2File file → (b k : ℕ) → Among file b k → (v : ℕ) → v < 256 → v ≢ get_or file (place b k) 0
    → RefusedAt b (changed b k v file)
changed_byte file good b k there v small other =
    damaged_refused file b (changed b k v file) good there.block (damaged_by_change file good b there.block k v there.byte small other)

-- Any two unequal bytes among a block's 508 exchanged: the same.
pub exchanged_bytes : (file : List ℕ) → Qpl2File file → (b j k : ℕ) → Among file b j → Among file b k → get_or file (place b j) 0 ≢ get_or file (place b k) 0
    → RefusedAt b (exchanged b j k file)
exchanged_bytes file good b j k here there unequal =
    damaged_refused file b (exchanged b j k file) good here.block (damaged_by_exchange file good b here.block j k here.byte there.byte unequal)

-- Such is every QPL2 file that the reader accepts,
pub accepted_qpl2 : (file : List ℕ) (room : ℕ) → read_refusal file room ≡ none → version_of file ≡ qpl2 → Qpl2File file
unfolding read_refusal_under
accepted_qpl2 file room e v = record {
  long = none_when (length_out (length file)) refusal.FileLength (none_else (when (length_out (length file)) refusal.FileLength) _ e).0;
  letters = v;
  blocks = (passed file room e).blocks;
}

-- and every file that the writer writes.
pub written_qpl2 : (f : Fields) (settings : List ℕ) (room : ℕ) → write_refusal f settings room ≡ none → Qpl2File (file_of qpl2 f settings)
written_qpl2 f settings room w = record {
  long = length_sound qpl2 f settings;
  letters = version_back qpl2 qpl2_known f settings;
  blocks = sound_back f settings room w qpl2 qpl2_known;
}
