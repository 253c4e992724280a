-- `planfile::write::put_file` meets its contract: block after block.
use native.Mathlib.Omega.{arith}
use mathlib.Core.Path.{◌≡◌, sym, ap, ◌∙◌}
use Prim.Native.Nat.{suc, ◌*◌}
use native.Mathlib.Nat.{zero-add}
use lib.ListN.{length}
use lib.Seq.{sets}
use Rattle.blocks.specs.Letters.{qpl2}
use Rattle.blocks.specs.File.{sealed, header, data_block, data_blocks, data_from, entry_of}
use Rattle.laws.proofs.Stores.{sets_append}
use Rattle.blocks.proofs.BlockLaws.{length_sealed}
use Rattle.blocks.proofs.HeaderLaws.{length_header}
use Rattle.puts.proofs.EntryLaws.{entry_front}
use Rattle.planfile.proofs.WriteLaws.{put_more}
use Rattle.planfile.proofs.write.put_file.Goals as goal

pub loop-b-preserved : goal.loop-b-preserved
loop-b-preserved c =
    let a = c.args in
    let s = a.settings.now in
    let file = c.loop-b.file in
    let b = c.loop-b.b in
    put_more qpl2 (entry_of a.f.scans s) b c.put_header.new.file
    (c.put_data.ensures ∙ ap (λ e. sets file (512 * suc b) (sealed qpl2 (data_block e b))) (entry_front a.f.scans s c.requires.scans_in_bounds.0))
    c.loop-b.invariant

pub returns : goal.returns
returns c =
    let a = c.args in
    let e = entry_of a.f.scans a.settings.now in
    let n : c.loop-b.b ≡ data_blocks a.f.scans = omega (arith, c.data_blocks-b-end.ensures.0) in
    let block_0 = sealed qpl2 (header qpl2 a.f) in
    let blocks = data_from qpl2 e 0 (data_blocks a.f.scans) in (
      c.file_length.ensures,
      c.loop-b.invariant
          ∙ ap (λ k. sets c.put_header.new.file 512 (data_from qpl2 e 0 k)) n
          ∙ ap (λ x. sets x 512 blocks) c.put_header.ensures
          ∙ sets_append a.file.now block_0 blocks 0 512 (sym (zero-add (length block_0) ∙ length_sealed qpl2 (header qpl2 a.f) (length_header qpl2 a.f))),
    )
