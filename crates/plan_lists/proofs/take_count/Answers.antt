-- Each way out rewrites with the count's field and test.
use mathlib.Core.Path.{sym, ◌∙◌}
use borrow.Author.Tests.{eq-eqb, ne_eqb}
use Rattle.fields.specs.inner.Field.{taking}
use Rattle.plan_lists.specs.inner.Scan.{count_taken}
use Rattle.plan_lists.proofs.take_count.Goals as goal

pub returns-in_default : goal.returns-in_default
unfolding count_taken taking
returns-in_default c = rw (c.refused_at.ensures, ← c.outside-c.ensures, sym c.one_byte.ensures ∙ c.in_default.is)

pub returns-then-k-count : goal.returns-then-k-count
unfolding count_taken taking
returns-then-k-count c = rw (
  c.refused_at-then-k-count.ensures,
  ← c.outside-c.ensures,
  sym c.one_byte.ensures ∙ c.in-Some.is,
  ← c.count.ensures,
  ne_eqb _ _ c.if-k-count.true,
  c.outside-c.ensures,
)

pub returns : goal.returns
unfolding count_taken taking
returns c = rw (← c.outside-c.ensures, sym c.one_byte.ensures ∙ c.in-Some.is, ← c.count.ensures, eq-eqb _ _ c.if-k-count.false)
