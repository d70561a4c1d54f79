-- A turn of the loop rewrites with the fields that are there and the tests that they pass; the check finds the ways out by the laws of a field.
use mathlib.Core.Path.{sym, ◌∙◌}
use borrow.Author.Tests.{le-leb}
use Rattle.fields.specs.inner.Field.{taking}
use Rattle.sheet_reader.proofs.Parts.{zones_turn}
use Rattle.sheet_reader.proofs.read_counts.Goals as goal

pub loop-z-preserved : goal.loop-z-preserved
unfolding taking
loop-z-preserved c = c.loop-z.invariant ∙ rw (
  zones_turn _ _ _ _ _ c.loop-z-test.true,
  ← c.outside-c.ensures,
  sym c.two_bytes.ensures ∙ c.in-Some.is,
  le-leb _ _ c.if-follow-gt-MOST_TIME.false,
  sym c.two_bytes-in-loop-z.ensures ∙ c.in-Some-two_bytes.is,
  le-leb _ _ c.if-cross-gt-MOST_TIME.false,
  c.put_gaps.ensures c.args.n 0,
)
