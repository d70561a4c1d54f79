-- What is not in the rest: the lowest member.
use native.Mathlib.Omega.{arith}
use Rattle.sets.proofs.Ends.{first_none, first_less}
use Rattle.sets.proofs.carts.first.Goals as goal

pub returns-then-set-eq0 : goal.returns-then-set-eq0
returns-then-set-eq0 c = first_none _ c.if-set-eq0.true

pub returns : goal.returns
returns c = first_less 16 _ _ _ (omega (arith, c.if-set-eq0.false)) c.ranges.set.fits c.rest.ensures c.less.ensures
