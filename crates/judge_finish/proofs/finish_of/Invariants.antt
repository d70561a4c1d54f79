-- The loop keeps the largest of the carts before c.
use mathlib.Core.Path.{◌≡◌}
use Rattle.times.specs.Times.{largest}
use Rattle.sheet_table.specs.inner.Parts.{steps, passing}
use Rattle.judge_finish.specs.inner.Finish.{last_leaving}
use Rattle.judge_finish.proofs.finish_of.Given as goal

abbrev pub invariant-loop-c : goal.invariant-loop-c
invariant-loop-c l = l.time ≡ largest (last_leaving (steps l.sheet) (passing l.sheet) l.enter) l.c
