-- The code's test is the definition's, and the step's zone is in range.
use native.Mathlib.Omega.{arith}
use borrow.Author.Tests.{lt-ltb, le-ltb}
use Rattle.planner_groups.proofs.Starting.{zone_known}
use Rattle.planner_groups.proofs.visiting.Goals as goal

pub offset_bounds-visitors-zone : goal.offset_bounds-visitors-zone
offset_bounds-visitors-zone c = omega (
  arith,
  zone_known _ _ c.requires.1 c.args.x
      (rw c.steps.ensures at c.if-x-steps.true),
  c.zone.ensures,
)

pub bounds-visitors-zone : goal.bounds-visitors-zone
bounds-visitors-zone c = omega (
  arith,
  zone_known _ _ c.requires.1 c.args.x
      (rw c.steps.ensures at c.if-x-steps.true),
  c.zone.ensures,
)

pub returns-then-x-steps : goal.returns-then-x-steps
returns-then-x-steps c = rw (lt-ltb _ _ (rw c.steps.ensures at c.if-x-steps.true), c.zone.ensures)

pub returns : goal.returns
returns c = rw (le-ltb _ _ (rw c.steps.ensures at c.if-x-steps.false))
