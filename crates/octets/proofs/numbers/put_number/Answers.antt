-- `octets::numbers::put_number` meets its contract.
use Rattle.std.proofs.Common.{◌≡◌, w64}
use Rattle.std.specs.Int.{to_le_bytes}
use Rattle.octets.specs.Bytes.{le}
use Rattle.octets.proofs.PartLaws.{put_mid-sets}
use Rattle.octets.proofs.NumberLaws.{le_written, length_le}
use Rattle.octets.proofs.numbers.put_number.Goals as goal

pub returns : goal.returns
returns g c =
    let a = c.args in
    let N = g.row.N in
    let all : c.to_le_bytes.result ≡ to_le_bytes w64 a.x = c.to_le_bytes.ensures in
    rw (c.copy_from_slice.ensures.after, all, le_written N a.x c.requires.width)
    (put_mid-sets a.out.now (le N a.x) a.at N (length_le N a.x) c.requires.inside)
