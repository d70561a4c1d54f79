-- None is placed at the start, then one cart more.
use native.Mathlib.Omega.{arith}
use Rattle.planner_lists.proofs.Placing.{placed_none, placed_next}
use Rattle.planner_lists.proofs.place_carts.Goals as goal

pub loop-c-init : goal.loop-c-init
loop-c-init c = placed_none _ _ _

pub loop-j-preserved : goal.loop-j-preserved
loop-j-preserved c =
    rw c.zone.ensures
    (placed_next _ _ _ _ c.requires _ _ (omega arith, omega (arith, c.steps-j-end.ensures)) _ c.loop-j.invariant _ c.count-place.ensures)
