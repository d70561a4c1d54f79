-- Whoever is next behind is one of the carts.
use native.Mathlib.Omega.{arith}
use Rattle.planner_spare.proofs.RearLaws.{rear_below}
use Rattle.planner_spare.proofs.least_in_line.Goals as goal

pub overflow_mul-d : goal.overflow_mul-d
overflow_mul-d c = omega (arith, rear_below _ _ c.requires.tables.rears_are _ _ c.requires.is_cart c.in-Some.is)

pub offset_bounds-spare-d : goal.offset_bounds-spare-d
offset_bounds-spare-d c = omega (arith, rear_below _ _ c.requires.tables.rears_are _ _ c.requires.is_cart c.in-Some.is)

pub bounds-spare-d : goal.bounds-spare-d
bounds-spare-d c = omega (arith, rear_below _ _ c.requires.tables.rears_are _ _ c.requires.is_cart c.in-Some.is)
