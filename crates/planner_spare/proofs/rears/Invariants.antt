-- The loop keeps that the carts before c stand behind the carts in front of them.
use Rattle.planner_spare.proofs.RearLaws.{FilledTo}
use Rattle.planner_spare.proofs.rears.Given as goal

abbrev pub invariant-loop-c : goal.invariant-loop-c
invariant-loop-c l = FilledTo l.sheet l.c l.rears
