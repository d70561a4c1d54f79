-- Each way out rewrites with the cart's field and test; past 15 no cart is in the set.
use mathlib.Core.Path.{◌≡◌, sym, ◌∙◌}
use mathlib.Core.Bool.{false, not, ◌&&◌}
use Rattle.fields.specs.inner.Field.{taking}
use Rattle.sets.specs.inner.Member.{has}
use Rattle.sets.proofs.Laws.{has_above}
use Rattle.plan_lists.specs.inner.Scan.{cart_taken}
use Rattle.plan_lists.proofs.take_cart.Goals.{then-i-gt15-via-then-i-gt15, then-i-gt15-via-else-i-gt15+then-not-has}
use Rattle.plan_lists.proofs.take_cart.Goals as goal

pub returns-in_default : goal.returns-in_default
unfolding cart_taken taking
returns-in_default c = rw (c.refused_at.ensures, ← c.outside-c.ensures, sym c.one_byte.ensures ∙ c.in_default.is)

pub returns-then-i-gt15 : goal.returns-then-i-gt15
unfolding cart_taken taking
returns-then-i-gt15 c =
    let out : (has c.args.who c.in-Some.i && not (has c.args.seen c.in-Some.i)) ≡ false =
    elim c.then-i-gt15.branch [
      | then-i-gt15-via-then-i-gt15 w ↦ rw (has_above 16 _ _ c.ranges.who.fits w.if-i-gt15.true)
      | then-i-gt15-via-else-i-gt15+then-not-has w ↦ sym (w.less.ensures _) ∙ sym w.has.ensures ∙ w.if-not-has.true
    ] in
    rw (
      c.refused_at-then-i-gt15.ensures,
      ← c.outside-c.ensures,
      sym c.one_byte.ensures ∙ c.in-Some.is,
      out,
      c.outside-c.ensures,
    )

pub returns : goal.returns
unfolding cart_taken taking
returns c = rw (
  ← c.outside-c.ensures,
  sym c.one_byte.ensures ∙ c.in-Some.is,
  sym (c.less.ensures _) ∙ sym c.has.ensures ∙ c.if-not-has.false,
)
