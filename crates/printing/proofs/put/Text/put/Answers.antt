-- `printing::put::Text::put` meets its contract.
use Rattle.std.proofs.Common.{refl, ap, ◌∙◌, length}
use lib.Seq.{length-sets}
use Rattle.octets.proofs.PartLaws.{put_mid-sets}
use Rattle.printing.proofs.put.Text.put.Goals as goal

pub returns : goal.returns
returns c =
    let a = c.args in
    let stored = put_mid-sets a.self.now.out.now a.bytes.now a.self.now.at _ refl c.requires in
    record {
      same_buffer = refl;
      as_long = rw c.copy_from_slice.ensures.after (ap length stored ∙ length-sets a.self.now.out.now a.self.now.at a.bytes.now);
      put = record { so = rw c.copy_from_slice.ensures.after stored; end = refl };
    }
