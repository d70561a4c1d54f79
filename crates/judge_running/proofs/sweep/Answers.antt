use mathlib.Core.Path.{sym, ◌∙◌}
use mathlib.Core.Bool.{true≢false}
use native.Mathlib.Omega.{arith}
use Rattle.judge_running.proofs.OneCart.{lane_few, lane_mates, started_count}
use Rattle.judge_running.proofs.Turns.{sweeping_start, turn_asked, turn_says, rest_less, sweeping_held, again_less}
use Rattle.judge_running.proofs.Turns.{sweeping_out, sweeping_on, sweeping_none, sweeping_some}
use Rattle.judge_running.proofs.sweep.Goals as goal

pub loop-turn-init : goal.loop-turn-init
loop-turn-init c = sweeping_start _ _ _ _ c.requires.0 c.requires.1

pub may_enter-requires : goal.may_enter-requires
may_enter-requires c = turn_asked _ _ _ _ _ _ c.loop-turn.invariant _ c.lowest-c.ensures.0 c.lowest-c.ensures.1 _ c.from.ensures

pub offset_bounds-on-lane : goal.offset_bounds-on-lane
offset_bounds-on-lane c = omega (arith, c.lane.ensures, lane_few _ _ _ c.loop-turn.invariant.underway _ c.lowest-c.ensures.0)

pub bounds-on-lane : goal.bounds-on-lane
bounds-on-lane c = omega (arith, c.lane.ensures, lane_few _ _ _ c.loop-turn.invariant.underway _ c.lowest-c.ensures.0)

pub start-freed-requires : goal.start-freed-requires
start-freed-requires c = (
  c.loop-turn.invariant.underway,
  c.lowest-c.ensures.0,
  (turn_says _ _ _ _ _ _ c.loop-turn.invariant _ c.lowest-c.ensures.0 c.lowest-c.ensures.1 _ c.from.ensures _ c.may_enter.ensures).0
      c.if-may_enter.true,
  lane_mates _ _ _ c.loop-turn.invariant.underway _ c.lowest-c.ensures.0 _ _ c.requires.2 c.lane.ensures,
)

pub advance-requires : goal.advance-requires
advance-requires c = (
  c.start-freed.ensures.onward.underway,
  c.lowest-c.ensures.0,
  c.start-freed.ensures.started,
  started_count _ _ _ _ _ _ c.lowest-c.ensures.0 c.start-freed.ensures,
  lane_mates _ _ _ c.loop-turn.invariant.underway _ c.lowest-c.ensures.0 _ _ c.requires.2 c.lane.ensures,
)

pub loop-turn-smaller-then-advance : goal.loop-turn-smaller-then-advance
loop-turn-smaller-then-advance c = again_less _ _ _ _ _ _ c.loop-turn.invariant _ c.lowest-c.ensures.1 _ c.rest-turn.ensures _ _ _ _ _
    c.start-freed.ensures c.joined-turn.ensures c.joined-still.ensures _ c.advance.ensures c.lowest-c.ensures.0

pub loop-turn-preserved-then-advance : goal.loop-turn-preserved-then-advance
loop-turn-preserved-then-advance c = sweeping_out _ _ _ _ _ _ c.loop-turn.invariant _ c.lowest-c.ensures.1 _ c.rest-turn.ensures _ _ _ _ _
    c.start-freed.ensures c.joined-turn.ensures c.joined-still.ensures _ c.advance.ensures c.if-advance.true _ c.without-still.ensures

pub loop-turn-smaller-else-advance : goal.loop-turn-smaller-else-advance
loop-turn-smaller-else-advance c = again_less _ _ _ _ _ _ c.loop-turn.invariant _ c.lowest-c.ensures.1 _ c.rest-turn.ensures _ _ _ _ _
    c.start-freed.ensures c.joined-turn.ensures c.joined-still.ensures _ c.advance.ensures c.lowest-c.ensures.0

pub loop-turn-preserved-else-advance : goal.loop-turn-preserved-else-advance
loop-turn-preserved-else-advance c = sweeping_on _ _ _ _ _ _ c.loop-turn.invariant _ c.lowest-c.ensures.1 _ c.rest-turn.ensures _ _ _ _ _
    c.start-freed.ensures c.joined-turn.ensures c.joined-still.ensures _ c.advance.ensures c.if-advance.false

pub loop-turn-smaller : goal.loop-turn-smaller
loop-turn-smaller c = rest_less _ _ _ _ _ _ c.loop-turn.invariant _ c.lowest-c.ensures.1 _ c.rest-turn.ensures c.lowest-c.ensures.0

pub loop-turn-preserved : goal.loop-turn-preserved
loop-turn-preserved c = sweeping_held _ _ _ _ _ _ c.loop-turn.invariant _ c.lowest-c.ensures.1 _ c.rest-turn.ensures
    (λ m. true≢false (sym ((turn_says _ _ _ _ _ _ c.loop-turn.invariant _ c.lowest-c.ensures.0 c.lowest-c.ensures.1 _ c.from.ensures _
    c.may_enter.ensures).1 m) ∙ c.if-may_enter.false))

pub returns-then-run-before : goal.returns-then-run-before
returns-then-run-before c = sweeping_none _ _ _ _ _ _ c.loop-turn.invariant c.loop-turn-test.false c.if-run-before.true

pub returns-else-run-before : goal.returns-else-run-before
returns-else-run-before c = sweeping_some _ _ _ _ _ _ c.loop-turn.invariant c.loop-turn-test.false c.if-run-before.false
