-- The loop keeps the least of the time so far and of the members that are left.
use mathlib.Core.Path.{◌≡◌}
use lib.ListN.{get_or}
use Rattle.sets.specs.inner.Member.{has}
use Rattle.removal.specs.Spare.{least_of}
use Rattle.planner_spare.specs.inner.Steps.{spare_in}
use Rattle.planner_spare.proofs.least_behind.Given as goal

abbrev pub invariant-loop-others : goal.invariant-loop-others
invariant-loop-others l = least_of (has (get_or l.facts.behind.now l.x 0)) (spare_in l.facts.visit.now l.spare l.z) l.time 16
    ≡ least_of (has l.others) (spare_in l.facts.visit.now l.spare l.z) l.least 16

abbrev pub decreases-loop-others : goal.decreases-loop-others
decreases-loop-others l = l.others
