use Rattle.crossing.specs.Plans.{given_by}
use Rattle.crossing.proofs.Tables.{carts_16}
use Rattle.judge_running.proofs.Asked.{asked_start}
use Rattle.judge_running.proofs.Turns.{settling_start, settling_end, settling_turn, settling_less}
use Rattle.judge_running.proofs.settle.Goals as goal

pub present_lanes-on-requires : goal.present_lanes-on-requires
unfolding given_by
present_lanes-on-requires c = c.requires.ranged.lane_most

pub loop-going-init : goal.loop-going-init
unfolding given_by
loop-going-init c = rw c.restart.ensures.restarted (settling_start _ _ _ _ c.requires (carts_16 _ _ _ _)
    (rw c.restart.ensures.restarted at c.restart.ensures.room)
    (asked_start _ _ c.requires.ranged.lane_most _ (rw c.present_lanes-on.ensures at c.foremost-going.ensures)))

pub sweep-going-requires : goal.sweep-going-requires
sweep-going-requires c = (
  c.loop-going.invariant.underway,
  c.loop-going.invariant.going_is.asked c.loop-going-test.true,
  c.present_lanes-on.ensures,
)

pub loop-going-smaller : goal.loop-going-smaller
loop-going-smaller c = settling_less _ _ _ _ c.loop-going.invariant _ _ c.sweep-going.ensures c.loop-going-test.true

pub loop-going-preserved : goal.loop-going-preserved
loop-going-preserved c = settling_turn _ _ _ _ c.loop-going.invariant _ _ c.sweep-going.ensures

pub returns : goal.returns
returns c = settling_end _ _ _ _ c.loop-going.invariant c.loop-going-test.false
