-- `puts::put_data` meets its contract: number, entries and check one after the other.
use native.Mathlib.Omega.{arith}
use lib.ListN.{length}
use Rattle.blocks.specs.Letters.{qpl2}
use Rattle.blocks.specs.File.{entry_of}
use Rattle.puts.proofs.PutLaws.{data_stored}
use Rattle.puts.proofs.put_data.Goals as goal

pub returns : goal.returns
returns c =
    let a = c.args in
    data_stored qpl2 (entry_of (length a.settings.now) a.settings.now) a.b a.file.now _ _ _ (omega arith)
    c.put_number.ensures
    c.put_entries.ensures
    c.seal.ensures
