-- The loop fills in the rank of each cart passed.
use mathlib.Core.Path.{◌≡◌}
use Rattle.words.specs.Lists.{table}
use Rattle.planner_ranks.specs.inner.Ranks.{rank_in}
use Rattle.sheet_table.specs.inner.Parts as parts
use Rattle.planner_ranks.proofs.ranks.Given as goal

abbrev pub invariant-loop-c : goal.invariant-loop-c
invariant-loop-c l = l.ranks ≡ table 16 l.c (rank_in (parts.arrival l.sheet) l.m)
