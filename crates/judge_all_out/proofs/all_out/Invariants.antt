-- The loop keeps which carts are not out; it ends after a turn in which none has moved, where all are out exactly if none is inside.
use Rattle.crossing.specs.inner.Tables.{crossing_of}
use Rattle.judge_running.specs.inner.Rounds.{InsideSet}
use Rattle.judge_all_out.specs.inner.Turns.{HaveMoved}
use Rattle.judge_all_out.proofs.Turns.{moves_left}
use Rattle.judge_all_out.proofs.all_out.Given as goal

abbrev pub invariant-loop-still : goal.invariant-loop-still
invariant-loop-still l = HaveMoved (crossing_of l.ground.sheet.now l.ground.ahead.now) l.at l.left
    × InsideSet (crossing_of l.ground.sheet.now l.ground.ahead.now) l.at l.inside

abbrev pub decreases-loop-still : goal.decreases-loop-still
decreases-loop-still l = moves_left (crossing_of l.ground.sheet.now l.ground.ahead.now) l.at
