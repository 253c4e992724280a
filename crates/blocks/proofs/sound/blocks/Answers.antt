-- `blocks::sound::blocks` meets its contract: block after block.
use Rattle.std.proofs.Common.{rules}
use Prim.Native.Nat.{◌/◌}
use lib.ListN.{length}
use Rattle.tables.specs.declared.refusal.Refusal.TheVariants as refusal
use Rattle.blocks.specs.Blocks.{block_broken, bad_block}
use Rattle.blocks.proofs.FoundLaws.{found_at}
use Rattle.blocks.proofs.sound.blocks.Goals as goal

pub returns-in_err-unless : goal.returns-in_err-unless
unfolding bad_block
returns-in_err-unless c =
    let l = c.loop-k in
    let file = c.args.file.now in
    let broken = block_broken c.version_of-version.result file in
    let e = found_at refusal.Block broken (length file / 512) l.k l.invariant c.loop-k-test.true c.block_wrong.ensures c.in_err-unless.ensures in
    let f = rw c.version_of-version.ensures at e in
    search rules
