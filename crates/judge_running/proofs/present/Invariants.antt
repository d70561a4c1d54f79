-- The loop keeps the set of those of the carts passed that have steps.
use mathlib.Core.Path.{◌≡◌}
use Rattle.sheet_table.specs.inner.Parts.{steps}
use Rattle.judge_running.specs.inner.Rounds.{present_set}
use Rattle.judge_running.proofs.present.Given as goal

abbrev pub invariant-loop-c : goal.invariant-loop-c
invariant-loop-c l = (l.set ≡ present_set (steps l.sheet) l.c)
