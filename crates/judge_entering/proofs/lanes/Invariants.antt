-- The loop keeps that the table has the carts passed, and `latest` the last of them on each lane.
use mathlib.Core.Path.{◌≡◌}
use Rattle.words.specs.Lists.{entries}
use Rattle.judge_entering.proofs.LaneLaws.{made, latest_on}
use Rattle.judge_entering.proofs.lanes.Given as goal

abbrev pub invariant-loop-c : goal.invariant-loop-c
invariant-loop-c l = (l.lanes ≡ entries 32 0 (made l.sheet l.c l.c)) × (l.latest ≡ entries 16 0 (latest_on l.sheet l.c))
