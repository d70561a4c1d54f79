-- The first entry that passes is the first of what is left of the list; after the last entry nothing is left.
use mathlib.Core.Path.{sym, ap, ◌∙◌}
use mathlib.Core.Bool.{not}
use native.Mathlib.Omega.{arith}
use Rattle.judge_ring.proofs.Following.{first_here, first_later, first_none}
use Rattle.judge_ring.proofs.first_not_left.Goals as goal

pub returns-then-not-has : goal.returns-then-not-has
returns-then-not-has c = (
  sym (c.loop-k.invariant ∙ first_here _ _ _ _ c.loop-k-test.true (ap not (sym c.has.ensures ∙ c.if-not-has.true))),
  c.requires.1.cart _ c.loop-k-test.true,
)

pub loop-k-preserved : goal.loop-k-preserved
loop-k-preserved c = c.loop-k.invariant ∙ first_later _ _ _ _ c.loop-k-test.true (ap not (sym c.has.ensures ∙ c.if-not-has.false))

pub returns : goal.returns
returns c = (sym (c.loop-k.invariant ∙ first_none _ _ _ _ c.loop-k-test.false), omega arith)
