-- A way out rewrites with the fields that are there and the tests that they pass; the check finds the others by the laws of a field.
use mathlib.Core.Path.{sym, ◌∙◌}
use borrow.Author.Tests.{lt-ltb, le-ltb, le-leb}
use Rattle.fields.specs.inner.Field.{taking}
use Rattle.sheet_cart.specs.inner.Parts.{step_at}
use Rattle.sheet_cart.proofs.read_step.Goals as goal

pub returns-then-n-z : goal.returns-then-n-z
unfolding step_at taking
returns-then-n-z c = rw (
  c.refused_at-then-n-z.ensures,
  sym c.one_byte.ensures ∙ c.in-Some.is,
  le-ltb _ _ c.if-n-z.true,
)

pub returns-then-has : goal.returns-then-has
unfolding step_at taking
returns-then-has c = rw (
  c.refused_at-then-has.ensures,
  sym c.one_byte.ensures ∙
      c.in-Some.is,
  lt-ltb _ _ c.if-n-z.false,
  sym
      c.has.ensures ∙ c.if-has.true,
)

pub returns : goal.returns
unfolding step_at taking
returns c = rw (
  sym
      c.one_byte.ensures ∙ c.in-Some.is,
  lt-ltb _ _ c.if-n-z.false,
  sym c.has.ensures
      ∙ c.if-has.false,
  sym c.two_bytes.ensures
      ∙ c.in-Some-two_bytes.is,
  le-leb _ _ c.if-p-gt-MOST_TIME.false,
  sym c.two_bytes-2.ensures ∙ c.in-Some-two_bytes-2.is,
  sym c.is_travel.ensures ∙ c.if-not-is_travel.false,
)
