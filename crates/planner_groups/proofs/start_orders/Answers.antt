use mathlib.Core.Path.{◌≡◌, refl}
use native.Mathlib.Omega.{arith}
use Rattle.planner_groups.proofs.Starting.{parted, started_none, started_next, starts}
use Rattle.planner_groups.proofs.start_orders.Goals as goal

pub loop-x-init : goal.loop-x-init
loop-x-init c = rw c.none-present.ensures (started_none _ _, refl)

pub loop-x-preserved : goal.loop-x-preserved
loop-x-preserved c = let new = parted _ _ _ _ _ _ _ _ _ c.less-apart.ensures c.less-own.ensures
    c.lower.ensures c.less-later.ensures c.less.ensures c.without.ensures in (
      started_next _ _ _ _ _ _ _ _ _ _ _ c.loop-x-test.true
          c.visiting-who.ensures
          c.mates.ensures
          c.loop-x.invariant.0 new,
      c.loop-x.invariant.1,
    )

pub returns : goal.returns
returns c = let ends : c.loop-x.x ≡ 128 = omega arith in
    (starts _ _ _ _ _ c.requires.routes c.requires.visitors_are (rw ends at c.loop-x.invariant.0), c.loop-x.invariant.1)
