-- `octets::numbers::number` meets its contract: the bytes, with zeros behind them, are those of the number.
use Rattle.std.proofs.Common.{ℕ, ◌≡◌, ◌+◌, ◌-◌, List, ◌++◌, drop, replicate, take, ap, ◌∙◌, arith, w64}
use Rattle.std.specs.Int.{from_le_bytes}
use Rattle.octets.specs.Bytes.{number_at, part}
use Rattle.octets.proofs.PartLaws.{part_length}
use Rattle.octets.proofs.NumberLaws.{value_read, number_small}
use Rattle.octets.proofs.numbers.number.Goals as goal
use Rattle.octets.proofs.numbers.number.Goals.{After-from_le_bytes}

-- the number read
read : (g : _) (c : After-from_le_bytes g) → c.from_le_bytes.result ≡ number_at c.args.at g.row.N c.args.s.now
unfolding number_at
read g c =
    let a = c.args in
    let n : a.at + g.row.N - a.at ≡ g.row.N = omega arith in
    let e : c.copy_from_slice.new.self ≡ part a.at g.row.N a.s.now = c.copy_from_slice.ensures.after ∙ ap (λ (k : ℕ). take k (drop a.at a.s.now)) n in
    c.from_le_bytes.ensures
    ∙ ap (λ (l : List ℕ). from_le_bytes w64 (l ++ drop g.row.N (replicate 8 0))) e
    ∙ value_read (part a.at g.row.N a.s.now) g.row.N (part_length a.at g.row.N a.s.now c.requires.inside) c.requires.width

pub returns-clause-held : goal.returns-clause-held
returns-clause-held g c = read g c

pub returns-clause-fits : goal.returns-clause-fits
returns-clause-fits g c = rw (read g c) (number_small c.args.at g.row.N c.args.s.now (λ i. let h = c.type_inv.s i in omega arith))
