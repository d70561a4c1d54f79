-- The carts looked at so far are in the set where their number is enough.
use mathlib.Core.Path.{◌≡◌}
use lib.ListN.{get_or}
use lib.Dec.{leb}
use Rattle.sets.specs.Counting.{set_below}
use Rattle.planner_groups.proofs.at_least.Given as goal

abbrev pub invariant-loop-c : goal.invariant-loop-c
invariant-loop-c l = (l.set ≡ set_below l.c (λ d. leb l.least (get_or l.ranks d 0)))
