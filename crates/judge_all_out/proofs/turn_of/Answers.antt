-- The lowest cart of the turn is held, or goes on and stays inside, or comes out.
use mathlib.Core.Path.{refl}
use Rattle.crossing.proofs.Tables.{steps_is}
use Rattle.judge_all_out.proofs.OneCart.{stands_free, stands_held}
use Rattle.judge_all_out.proofs.Turns.{turning_start, turning_wants, turning_held, turning_out, turning_stays, turning_end}
use Rattle.judge_all_out.proofs.turn_of.Goals as goal

pub loop-turn-init : goal.loop-turn-init
loop-turn-init c = turning_start _ _ _ _ c.requires.0 c.requires.1

pub may_go_in-requires : goal.may_go_in-requires
may_go_in-requires c = (
  c.loop-turn.invariant.have_moved.standing,
  c.lowest-c.ensures.0,
  turning_wants _ _ _ _ _ _ _ _ c.loop-turn.invariant _ _ c.lowest-c.ensures.1
      c.rest-turn.ensures _ (steps_is _ _ _ _ _ c.lowest-c.ensures.0),
)

pub go_on-requires : goal.go_on-requires
go_on-requires c = stands_free _ _ _ _ c.loop-turn.invariant.have_moved _
    c.lowest-c.ensures.0 _ c.may_go_in.ensures (turning_wants _ _ _ _ _ _ _ _ c.loop-turn.invariant _ _
    c.lowest-c.ensures.1 c.rest-turn.ensures _ refl)
    c.if-may_go_in.true

pub loop-turn-preserved-then-steps-at : goal.loop-turn-preserved-then-steps-at
loop-turn-preserved-then-steps-at c = turning_out _ _ _ _ _ _ _ _ c.loop-turn.invariant _ _ c.lowest-c.ensures.1
    c.rest-turn.ensures _ _ c.go_on.ensures _ _ (steps_is _ _ _ _ _ c.lowest-c.ensures.0)
    (rw c.steps.ensures at c.if-steps-at.true) c.without-still.ensures

pub loop-turn-preserved-else-steps-at : goal.loop-turn-preserved-else-steps-at
loop-turn-preserved-else-steps-at c = turning_stays _ _ _ _ _ _ _ _ c.loop-turn.invariant _ _ c.lowest-c.ensures.1
    c.rest-turn.ensures _ _ c.go_on.ensures _ (steps_is _ _ _ _ _ c.lowest-c.ensures.0) (rw c.steps.ensures at c.if-steps-at.false)

pub loop-turn-preserved : goal.loop-turn-preserved
loop-turn-preserved c = turning_held _ _ _ _ _ _ _ _ c.loop-turn.invariant _ _
    c.lowest-c.ensures.1 c.rest-turn.ensures (stands_held _ _ _ _
    c.loop-turn.invariant.have_moved _ c.lowest-c.ensures.0 _ c.may_go_in.ensures c.if-may_go_in.false)

pub returns : goal.returns
returns c = rw c.then_some.ensures (turning_end _ _ _ _ _ _ _ _ c.loop-turn.invariant c.loop-turn-test.false)
