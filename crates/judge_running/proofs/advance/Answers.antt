use native.Mathlib.Omega.{arith}
use Rattle.judge_running.proofs.OneCart.{steps_few, advancing_start, places_few, x_asked, advancing_held}
use Rattle.judge_running.proofs.OneCart.{next_room, next_asked, advancing_next, out_room, out_asked, advancing_out}
use Rattle.judge_running.proofs.advance.Goals as goal

pub overflow_add-end : goal.overflow_add-end
overflow_add-end c = omega (arith, c.requires.1, c.steps.ensures, steps_few _ _ _ c.requires.0 _ c.requires.1)

pub loop-x-init : goal.loop-x-init
loop-x-init c = rw c.from.ensures (advancing_start _ _ _ _ c.requires.0 c.requires.1 c.requires.2 c.requires.3)

pub may_enter-requires : goal.may_enter-requires
may_enter-requires c = x_asked _ _ _ _ _ _ c.loop-x.invariant (rw c.steps.ensures at c.loop-x-test.true)

pub returns-then-not-may_enter : goal.returns-then-not-may_enter
returns-then-not-may_enter c = advancing_held _ _ _ _ _ _ c.loop-x.invariant (rw c.steps.ensures at c.loop-x-test.true) _
    c.may_enter.ensures c.if-not-may_enter.true

pub move_on-requires : goal.move_on-requires
move_on-requires c = next_asked _ _ _ _ _ _ c.loop-x.invariant (rw c.steps.ensures at c.loop-x-test.true) _
    c.may_enter.ensures c.if-not-may_enter.false _ c.requires.4

pub count_move-requires : goal.count_move-requires
count_move-requires c = rw c.move_on.ensures.others (
  c.requires.1,
  places_few _ _ _ _ _ _ c.loop-x.invariant,
  next_room _ _ _ _ _ _ c.loop-x.invariant (rw c.steps.ensures at c.loop-x-test.true) _
      c.may_enter.ensures c.if-not-may_enter.false,
)

pub loop-x-preserved : goal.loop-x-preserved
loop-x-preserved c = rw (c.count_move.ensures, c.move_on.ensures.others)
    (advancing_next _ _ _ _ _ _ c.loop-x.invariant (rw c.steps.ensures at c.loop-x-test.true) _
    c.may_enter.ensures c.if-not-may_enter.false _ _ _ c.move_on.ensures.gone)

pub move_out-requires : goal.move_out-requires
move_out-requires c = rw c.steps.ensures (out_asked _ _ _ _ _ _ c.loop-x.invariant (rw c.steps.ensures at c.loop-x-test.false))

pub count_move-requires-2 : goal.count_move-requires-2
count_move-requires-2 c = rw c.move_out.ensures.others (
  c.requires.1,
  places_few _ _ _ _ _ _ c.loop-x.invariant,
  out_room _ _ _ _ _ _ c.loop-x.invariant (rw c.steps.ensures at c.loop-x-test.false),
)

pub returns : goal.returns
returns c = rw (c.count_move-2.ensures, c.move_out.ensures.others)
    (advancing_out _ _ _ _ _ _ c.loop-x.invariant (rw c.steps.ensures at c.loop-x-test.false) _ _
    (rw c.steps.ensures at c.move_out.ensures.gone))
