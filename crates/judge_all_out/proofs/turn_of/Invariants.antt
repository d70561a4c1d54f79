-- The loop keeps which carts are still to be asked and which are not out; where none has moved, only a cart still to be asked may move.
use Rattle.crossing.specs.inner.Tables.{crossing_of}
use Rattle.judge_all_out.proofs.Turns.{Turning}
use Rattle.judge_all_out.proofs.turn_of.Given as goal

abbrev pub invariant-loop-turn : goal.invariant-loop-turn
invariant-loop-turn l = Turning (crossing_of l.ground.sheet.now l.ground.ahead.now) l.initial.at l.at l.left l.inside l.turn l.still l.moved

abbrev pub decreases-loop-turn : goal.decreases-loop-turn
decreases-loop-turn l = l.turn
