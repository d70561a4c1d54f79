-- A way out rewrites with the fields that are there and the tests that they pass; the check finds the others by the laws of a field.
use mathlib.Core.Path.{sym, ◌∙◌}
use borrow.Author.Tests.{le-leb, lt-leb}
use Rattle.fields.specs.inner.Field.{taking}
use Rattle.sheet_cart.specs.inner.Parts.{head_at}
use Rattle.sheet_cart.proofs.read_head.Goals as goal

pub returns-then-steps-lt1 : goal.returns-then-steps-lt1
unfolding head_at taking
returns-then-steps-lt1 c = rw (
  c.refused_at-then-steps-lt1.ensures,
  sym
      c.one_byte.ensures
      ∙ c.in-Some.is,
  le-leb _ _
      c.if-lane-gt15.false,
  sym
      c.four_bytes.ensures
      ∙ c.in-Some-four_bytes.is,
  le-leb _ _
      c.if-arrival-gt-LATEST_ARRIVAL.false,
  sym c.one_byte-2.ensures
      ∙ c.in-Some-one_byte.is,
  lt-leb _ _ c.if-steps-lt1.true,
)

pub returns-then-steps-gt8 : goal.returns-then-steps-gt8
unfolding head_at taking
returns-then-steps-gt8 c = rw (
  c.refused_at-then-steps-gt8.ensures,
  sym
      c.one_byte.ensures
      ∙ c.in-Some.is,
  le-leb _ _
      c.if-lane-gt15.false,
  sym
      c.four_bytes.ensures
      ∙ c.in-Some-four_bytes.is,
  le-leb _ _
      c.if-arrival-gt-LATEST_ARRIVAL.false,
  sym c.one_byte-2.ensures
      ∙ c.in-Some-one_byte.is,
  le-leb _ _ c.if-steps-lt1.false,
  lt-leb _ _ c.if-steps-gt8.true,
)

pub returns : goal.returns
unfolding head_at taking
returns c = rw (
  sym
      c.one_byte.ensures
      ∙ c.in-Some.is,
  le-leb _ _
      c.if-lane-gt15.false,
  sym
      c.four_bytes.ensures
      ∙ c.in-Some-four_bytes.is,
  le-leb _ _
      c.if-arrival-gt-LATEST_ARRIVAL.false,
  sym c.one_byte-2.ensures
      ∙ c.in-Some-one_byte.is,
  le-leb _ _ c.if-steps-lt1.false,
  le-leb _ _ c.if-steps-gt8.false,
)
