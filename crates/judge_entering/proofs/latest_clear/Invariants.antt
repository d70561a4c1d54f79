-- The loop keeps the latest of the time so far and of the members that are left.
use mathlib.Core.Path.{◌≡◌}
use Rattle.judge_entering.specs.inner.Times.{clear_by, latest}
use Rattle.judge_entering.proofs.latest_clear.Given as goal

abbrev pub invariant-loop-others : goal.invariant-loop-others
invariant-loop-others l = latest (clear_by l.leave l.z l.gap) l.members l.ready ≡ latest (clear_by l.leave l.z l.gap) l.others l.time

abbrev pub decreases-loop-others : goal.decreases-loop-others
decreases-loop-others l = l.others
