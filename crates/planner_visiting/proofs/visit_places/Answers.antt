-- None is placed at the start, then one step more.
use native.Mathlib.Omega.{arith}
use Rattle.planner_visiting.proofs.Filling.{placed_none, placed_next}
use Rattle.planner_visiting.proofs.visit_places.Goals as goal

pub loop-c-init : goal.loop-c-init
loop-c-init c = placed_none _ _

pub loop-j-preserved : goal.loop-j-preserved
loop-j-preserved c = rw c.zone-z.ensures (placed_next _ _ c.requires _ _ (omega arith) (omega (arith, c.steps-j-end.ensures)) _ c.loop-j.invariant)
