-- `octets::halves::half_of` meets its contract: a shift and a mask read half a byte.
use mathlib.Core.Path.{sym, subst}
use Prim.Native.Nat.{ℕ, ◌%◌, ◌<◌}
use Rattle.octets.proofs.HalfLaws.{half_read, half_small}
use Rattle.octets.proofs.halves.half_of.Goals as goal

pub returns : goal.returns
returns c =
    let e = half_read c.args.b c.args.k in
    (e, subst (λ (x : ℕ). x < 16) (sym e) (half_small _ (c.args.k % 2)))
