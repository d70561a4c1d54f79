-- Step by step: the choice takes in the step's candidates, or there are none.
use native.Mathlib.Omega.{arith}
use mathlib.Core.Path.{◌≡◌}
use Rattle.planner_costs.proofs.Scanning.{scan_skip}
use Rattle.planner_costs.proofs.largest_cost.Goals as goal
use Rattle.planner_costs.proofs.largest_cost.Goals.{then-facts-x-gt0, else-facts-x-gt0}

pub loop-x-preserved : goal.loop-x-preserved
loop-x-preserved c =
    elim c.if-facts-x-gt0.branch [
      | then-facts-x-gt0 w ↦ rw w.best-is w.largest_at-best.ensures
      | else-facts-x-gt0 w ↦ rw w.best-is (scan_skip _ _ w.if-facts-x-gt0.false _ c.loop-x.invariant)
    ]

pub returns : goal.returns
returns c = let end : c.loop-x.x ≡ 128 = omega arith in rw end at c.loop-x.invariant
