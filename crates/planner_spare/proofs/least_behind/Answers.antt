-- The lowest member is taken in, and the rest is left.
use mathlib.Core.Path.{sym, ◌∙◌}
use Rattle.planner_spare.proofs.Least.{least_none, least_turn}
use Rattle.planner_spare.proofs.least_behind.Goals as goal

pub loop-others-preserved : goal.loop-others-preserved
loop-others-preserved c =
    c.loop-others.invariant
    ∙ rw c.min-least.ensures (least_turn _ _ _ _ _ c.lowest-d.ensures.0 c.lowest-d.ensures.1 c.rest-others.ensures)

pub returns : goal.returns
returns c = sym (rw c.zone-z.ensures at c.loop-others.invariant ∙ least_none _ _ _ c.loop-others-test.false)
