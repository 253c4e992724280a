-- `search::halving::least_ceiling` meets its contract: something fits under `least`, and nothing under what is below `low`.
use native.Mathlib.Omega.{arith}
use Rattle.seek.proofs.SeekLaws.{room_framed}
use Rattle.search.proofs.HalvingLaws.{halved_start, halved_down, halved_up, halved_end}
use Rattle.search.proofs.halving.least_ceiling.Goals as goal

pub loop-low-init : goal.loop-low-init
loop-low-init c = (omega arith, halved_start c.requires.some_fits)

pub overflow_add-middle : goal.overflow_add-middle
overflow_add-middle c = omega (arith, c.ranges.high)

pub some_fit-requires : goal.some_fit-requires
some_fit-requires c = room_framed c.requires.room c.loop-low.invariant.1.framed

pub loop-low-smaller-then-some_fit : goal.loop-low-smaller-then-some_fit
loop-low-smaller-then-some_fit c = omega arith

pub loop-low-preserved-then-some_fit : goal.loop-low-preserved-then-some_fit
loop-low-preserved-then-some_fit c = (omega arith, halved_down c.loop-low.invariant.1 (omega arith) (rw c.if-some_fit.true at c.some_fit.ensures))

pub overflow_add-low : goal.overflow_add-low
overflow_add-low c = omega (arith, c.ranges.high)

pub loop-low-preserved : goal.loop-low-preserved
loop-low-preserved c = (c.loop-low.invariant.0, halved_up c.loop-low.invariant.1 (omega arith) (rw c.if-some_fit.false at c.some_fit.ensures))

pub shape_of-scratch : goal.shape_of-scratch
shape_of-scratch c = c.loop-low.invariant.1.framed.long

pub returns : goal.returns
returns c = halved_end c.loop-low.invariant.1 (omega arith)
