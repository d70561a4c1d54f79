-- Cart by cart: it stands behind the cart in front of it, or nobody is in front.
use mathlib.Core.Path.{sym, ◌∙◌}
use native.Mathlib.Omega.{arith}
use Rattle.planner_spare.proofs.RearLaws.{filled_none, filled_more, filled_as_before, filled_all, front_below}
use Rattle.planner_spare.proofs.rears.Goals as goal
use Rattle.planner_spare.proofs.rears.Goals.{in-Some, in_default}

pub loop-c-init : goal.loop-c-init
loop-c-init c = filled_none _

pub bounds-rears-f : goal.bounds-rears-f
bounds-rears-f c = front_below _ _ c.lanes-lanes.ensures _ c.loop-c-test.true _ (sym c.front.ensures ∙ c.in-Some.is)

pub loop-c-preserved : goal.loop-c-preserved
loop-c-preserved c =
    elim c.match-front.branch [
      | in-Some w ↦ rw w.rears-is
          (filled_more _ _ c.lanes-lanes.ensures _ c.loop-c-test.true _ c.loop-c.invariant _ (sym c.front.ensures ∙ w.in-Some.is))
      | in_default w ↦ rw w.rears-is
          (filled_as_before _ _ c.lanes-lanes.ensures _ c.loop-c-test.true _ c.loop-c.invariant (sym c.front.ensures ∙ w.in_default.is))
    ]

pub returns : goal.returns
returns c = filled_all _ _ _ (omega arith) c.loop-c.invariant
