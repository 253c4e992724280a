-- `puts::put_header` meets its contract: field after field, and their check.
use native.Mathlib.Omega.{arith}
use Rattle.blocks.specs.Letters.{qpl2}
use Rattle.blocks.specs.File.{header}
use Rattle.puts.proofs.PutLaws.{header_stored, with_check}
use Rattle.puts.proofs.put_header.Goals as goal

pub returns : goal.returns
returns c =
    let d = c.args.file.now in
    let f = c.args.f in
    with_check qpl2 d (header qpl2 f) _ _ 0 (omega (arith, c.requires))
    (header_stored qpl2 f d _ _ _ _ _ _ _ _ _ _ _ _ _ _ _ _
    c.put_number.ensures c.put_letters.ensures c.put_number-2.ensures
    c.put_number-3.ensures c.put_number-4.ensures c.put_number-5.ensures
    c.put_number-6.ensures c.put_zeros.ensures c.put_number-7.ensures
    c.put_number-8.ensures c.put_number-9.ensures c.put_number-10.ensures
    c.put_number-11.ensures c.put_number-12.ensures c.put_number-13.ensures
    c.put_zeros-2.ensures)
    c.seal.ensures
