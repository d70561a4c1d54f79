-- The loop keeps that the sets have the carts passed.
use mathlib.Core.Path.{◌≡◌}
use Rattle.words.specs.Lists.{entries}
use Rattle.judge_entering.specs.inner.Lanes.{present_on}
use Rattle.judge_entering.proofs.present_lanes.Given as goal

abbrev pub invariant-loop-c : goal.invariant-loop-c
invariant-loop-c l = (l.on ≡ entries 16 0 (present_on l.sheet l.c))
