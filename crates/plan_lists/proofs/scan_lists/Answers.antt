use mathlib.Core.Path.{refl, sym, ◌∙◌}
use native.Mathlib.Omega.{arith}
use lib.Count.{ones-le}
use Rattle.words.proofs.Left.{left_all}
use Rattle.plan_lists.proofs.SetLaws.{with_is}
use Rattle.plan_lists.proofs.ScanLaws.{lists_end, lists_refused, lists_count, carts_end, carts_refused, carts_next, count_value, count_refused}
use Rattle.plan_lists.proofs.ScanLaws.{cart_value, cart_refused}
use Rattle.plan_lists.proofs.scan_lists.Goals as goal

pub loop-z-init : goal.loop-z-init
loop-z-init c = (refl, rw (c.requires.2.0, c.requires.2.1, c.requires.2.2, left_all))

pub loop-e-init : goal.loop-e-init
loop-e-init c = (c.loop-z.invariant.0, rw left_all)

pub bounds-orders-z-in-loop-e : goal.bounds-orders-z-in-loop-e
bounds-orders-z-in-loop-e c =
    omega (arith, count_value _ _ _ _ (sym c.take_count.ensures ∙ c.in-Ok.is), ones-le 16 _ (c.requires.1 c.loop-z.z), c.from-e-end.ensures)

pub bounds-before-z : goal.bounds-before-z
bounds-before-z c = omega (arith, cart_value _ _ _ (c.requires.1 c.loop-z.z) _ _ (sym c.take_cart.ensures ∙ c.in-Ok-take_cart.is), c.from-d.ensures)

pub bounds-lead-d : goal.bounds-lead-d
bounds-lead-d c = omega (arith, cart_value _ _ _ (c.requires.1 c.loop-z.z) _ _ (sym c.take_cart.ensures ∙ c.in-Ok-take_cart.is), c.from-d.ensures)

pub with-seen-requires : goal.with-seen-requires
with-seen-requires c = omega (arith, cart_value _ _ _ (c.requires.1 c.loop-z.z) _ _ (sym c.take_cart.ensures ∙ c.in-Ok-take_cart.is), c.from-d.ensures)

pub loop-e-preserved : goal.loop-e-preserved
loop-e-preserved c = (
  c.loop-e.invariant.0,
  rw (with_is _ _ _ (omega (arith, c.with-seen.type_inv)) c.with-seen.ensures, c.first_late-late.ensures, c.from-d.ensures)
      (c.loop-e.invariant.1 ∙ carts_next _ _ _ _ _ _ _ _ _ _ (omega (arith, c.from-e-end.ensures)) _ (sym c.take_cart.ensures ∙ c.in-Ok-take_cart.is)),
)

pub loop-z-preserved : goal.loop-z-preserved
loop-z-preserved c = (
  c.loop-e.invariant.0,
  c.loop-z.invariant.1
      ∙ lists_count _ _ _ _ _ _ _ c.loop-z-test.true _ (sym c.take_count.ensures ∙ c.in-Ok.is)
      ∙ c.loop-e.invariant.1
      ∙ carts_end _ _ _ _ _ _ _ _ _ _ (omega (arith, c.from-e-end.ensures)),
)

pub returns-after-loop-z : goal.returns-after-loop-z
returns-after-loop-z c = (c.loop-z.invariant.0, c.loop-z.invariant.1 ∙ lists_end _ _ _ _ _ _ _ c.loop-z-test.false)

pub returns-in-Err : goal.returns-in-Err
returns-in-Err c =
    let e = sym c.take_count.ensures ∙ c.in-Err.is in
    (c.loop-z.invariant.0, (count_refused _ _ _ _ e, c.loop-z.invariant.1 ∙ lists_refused _ _ _ _ _ _ _ c.loop-z-test.true _ e))

pub returns-in-Err-take_cart : goal.returns-in-Err-take_cart
returns-in-Err-take_cart c =
    let e = sym c.take_cart.ensures ∙ c.in-Err-take_cart.is in (
      c.loop-e.invariant.0,
      (
        cart_refused _ _ _ (c.requires.1 c.loop-z.z) _ _ e,
        c.loop-z.invariant.1
            ∙ lists_count _ _ _ _ _ _ _ c.loop-z-test.true _ (sym c.take_count.ensures ∙ c.in-Ok.is)
            ∙ c.loop-e.invariant.1
            ∙ carts_refused _ _ _ _ _ _ _ _ _ _ (omega (arith, c.from-e-end.ensures)) _ e,
      ),
    )
