-- `room::room_for` meets its contract: the checks in their order, and products that do not wrap.
use Rattle.std.proofs.Common.{sym, arith}
use Rattle.std.proofs.lemmas.Result.{err_from_is_err_and}
use Rattle.tables.proofs.CellLaws.{cells_small, bytes_small}
use Rattle.room.proofs.RoomLaws.{refuses_room, gives_room, room_ranges}
use Rattle.room.proofs.room_for.Goals as goal

pub returns-in_err-checked : goal.returns-in_err-checked
returns-in_err-checked c =
    let p = err_from_is_err_and c.from_residual.result c.from_residual.ensures.1 in
    rw (p.1, p.2) (refuses_room _ _ _ (sym c.in_err-checked.ensures))

pub count-cells-requires : goal.count-cells-requires
count-cells-requires c = let r = (room_ranges _ _ _ (sym c.in_ok-checked.ensures)).1 in (r.0.0, (r.0.1, r.1.1))

pub table_bytes-requires : goal.table_bytes-requires
table_bytes-requires c =
    let r = room_ranges _ _ _ (sym c.in_ok-checked.ensures) in
    (r.0, omega (arith, bytes_small {k = c.count-cells.result} r.0 (rw c.count-cells.ensures (cells_small r.1.0.1 r.1.1.1))))

pub scratch_need-requires : goal.scratch_need-requires
scratch_need-requires c = let r = (room_ranges _ _ _ (sym c.in_ok-checked.ensures)).1 in (r.0.1, r.1.1)

pub returns : goal.returns
returns c = rw (c.table_bytes.ensures, c.count-cells.ensures, c.scratch_need.ensures.0) (gives_room _ _ _ (sym c.in_ok-checked.ensures))
