-- The cart leaves each zone as it goes into the next, and the last as it comes out.
use Rattle.judge_all_out.proofs.OneCart.{first_asked, going_in, going_over, zone_left_asked, x_asked, gone_held}
use Rattle.judge_all_out.proofs.OneCart.{going_next, out_asked, gone_out}
use Rattle.judge_all_out.proofs.go_on.Goals as goal
use Rattle.judge_all_out.proofs.go_on.Goals.{then-from-gt0, else-from-gt0}

pub join-requires : goal.join-requires
join-requires c = (
  rw c.zone.ensures (first_asked _ _ _ _ _ c.requires c.if-from-gt0.true).1,
  c.requires.cart_16,
  c.requires.have_moved.left_24,
)

pub loop-p-init : goal.loop-p-init
loop-p-init c = elim c.if-from-gt0.branch [
  | then-from-gt0 w ↦ rw w.left-is
      (going_over _ _ _ _ _ c.requires w.if-from-gt0.true _ (rw w.zone.ensures at w.join.ensures))
  | else-from-gt0 w ↦ rw w.left-is (going_in _ _ _ _ _ c.requires w.if-from-gt0.false)
]

pub may_enter-requires : goal.may_enter-requires
may_enter-requires c = x_asked _ _ _ _ _ _ c.loop-p.invariant (rw c.steps-k.ensures at c.loop-p-test.true)

pub returns-then-not-may_enter : goal.returns-then-not-may_enter
returns-then-not-may_enter c = gone_held _ _ _ _ _ _ c.loop-p.invariant (rw c.steps-k.ensures at
    c.loop-p-test.true) _ c.may_enter.ensures c.if-not-may_enter.true

pub zone-requires-in-loop-p : goal.zone-requires-in-loop-p
zone-requires-in-loop-p c = (zone_left_asked _ _ _ _ _ _ c.loop-p.invariant).0

pub join-requires-in-loop-p : goal.join-requires-in-loop-p
join-requires-in-loop-p c = (
  rw c.zone-in-loop-p.ensures (zone_left_asked _ _ _ _ _ _ c.loop-p.invariant).1,
  c.requires.cart_16,
  c.loop-p.invariant.have_moved.left_24,
)

pub loop-p-preserved : goal.loop-p-preserved
loop-p-preserved c = going_next _ _ _ _ _ _ c.loop-p.invariant (rw c.steps-k.ensures at
    c.loop-p-test.true) _ c.may_enter.ensures c.if-not-may_enter.false _ (rw c.zone-in-loop-p.ensures at c.join-in-loop-p.ensures)

pub zone-requires-2 : goal.zone-requires-2
zone-requires-2 c = rw c.steps-k.ensures (out_asked _ _ _ _ _ _ c.loop-p.invariant
    (rw c.steps-k.ensures at c.loop-p-test.false)).0

pub join-requires-2 : goal.join-requires-2
join-requires-2 c = (
  rw (c.zone-2.ensures, c.steps-k.ensures) (out_asked _ _ _ _ _ _ c.loop-p.invariant
      (rw c.steps-k.ensures at c.loop-p-test.false)).1,
  c.requires.cart_16,
  c.loop-p.invariant.have_moved.left_24,
)

pub returns : goal.returns
returns c = rw c.steps-k.ensures (gone_out _ _ _ _ _ _ c.loop-p.invariant
    (rw c.steps-k.ensures at c.loop-p-test.false) _ (rw (c.zone-2.ensures, c.steps-k.ensures) at c.join-2.ensures))
