-- `octets::numbers::put_zeros` meets its contract.
use Rattle.std.proofs.Common.{ℕ, ◌≡◌, ◌+◌, ◌-◌, replicate, arith}
use Rattle.std.proofs.lemmas.List.{length-replicate}
use Rattle.octets.proofs.PartLaws.{part_length, put_mid-sets}
use Rattle.octets.proofs.numbers.put_zeros.Goals as goal

pub returns : goal.returns
returns c =
    let a = c.args in
    let n : a.at + a.k - a.at ≡ a.k = omega arith in
    let stored = put_mid-sets a.out.now (replicate {A = ℕ} a.k 0) a.at a.k (length-replicate {A = ℕ} a.k 0) c.requires in
    rw (c.fill.ensures.after (λ y e. e), n, part_length a.at a.k a.out.now c.requires) (rw n at stored)
