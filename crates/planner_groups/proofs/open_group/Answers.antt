use mathlib.Core.Path.{◌≡◌}
use native.Mathlib.Omega.{arith}
use Rattle.planner_groups.proofs.Opening.{joined_none, joined_next, opens}
use Rattle.planner_groups.proofs.open_group.Goals as goal

pub loop-x-init : goal.loop-x-init
loop-x-init c = (joined_none _ _ _ _, joined_none _ _ _ _, joined_none _ _ _ _)

pub loop-x-preserved : goal.loop-x-preserved
loop-x-preserved c = (
  joined_next _ _ _ _ _ _ _ c.loop-x.invariant.0
      (rw c.has-over.ensures at c.joined.ensures),
  joined_next _ _ _ _ _ _ _ c.loop-x.invariant.1
      (rw c.has-inside.ensures at c.joined-in-loop-x.ensures),
  joined_next _ _ _ _ _ _ _ c.loop-x.invariant.2
      (rw c.has-inside.ensures at c.joined-in-loop-x-2.ensures),
)

pub returns : goal.returns
returns c = let ends : c.loop-x.x ≡ 128 = omega arith in
    opens _ _ _ _ _ _ _ c.at_least.ensures c.at_least-above.ensures
    c.less-within.ensures _ _ _ _ _ _
    (rw ends at c.loop-x.invariant.0) (rw ends at c.loop-x.invariant.1) (rw ends at c.loop-x.invariant.2)
