-- A way out rewrites with the fields that are there and the tests that they pass; the check finds the others by the laws of a field.
use mathlib.Core.Path.{sym, ◌∙◌}
use borrow.Author.Tests.{eq-eqb, ne_eqb, le-leb}
use Rattle.fields.specs.inner.Field.{taking}
use Rattle.opening.specs.inner.Opening.{opening_by}
use Rattle.opening.proofs.read_opening.Goals as goal

pub returns-then-total-s : goal.returns-then-total-s
unfolding opening_by taking
returns-then-total-s c = rw (
  c.refused_at-then-total-s.ensures,
  ← c.outside-start.ensures,
  sym c.one_byte.ensures ∙ c.in-Some.is,
  eq-eqb _ _ c.if-version-ne1.false,
  sym c.two_bytes.ensures ∙ c.in-Some-two_bytes.is,
  ne_eqb _ _ c.if-total-s.true,
)

pub returns : goal.returns
unfolding opening_by taking
returns c = rw (
  ← c.outside-start.ensures,
  sym c.one_byte.ensures ∙ c.in-Some.is,
  eq-eqb _ _ c.if-version-ne1.false,
  sym c.two_bytes.ensures ∙ c.in-Some-two_bytes.is,
  eq-eqb _ _ c.if-total-s.false,
  sym c.one_byte-2.ensures ∙ c.in-Some-one_byte.is,
  le-leb _ _ c.if-n-least.false,
  le-leb _ _ c.if-most-n.false,
)
