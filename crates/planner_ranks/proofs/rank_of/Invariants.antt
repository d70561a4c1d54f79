-- The loop counts the carts before d that come before c.
use mathlib.Core.Path.{◌≡◌}
use Rattle.sets.specs.Counting.{count_below}
use Rattle.planner_ranks.specs.inner.Ranks.{comes_before_in}
use Rattle.sheet_table.specs.inner.Parts as parts
use Rattle.planner_ranks.proofs.rank_of.Given as goal

abbrev pub invariant-loop-d : goal.invariant-loop-d
invariant-loop-d l = l.rank ≡ count_below l.d (λ e. comes_before_in (parts.arrival l.sheet) e l.c)
