-- Nobody is lower, or the highest of the lower carts is in front.
use mathlib.Core.Path.{refl}
use Rattle.judge_entering.proofs.Sides.{none_before, some_before}
use Rattle.judge_entering.proofs.front_enters.Goals as goal

pub returns-then-lower-eq0 : goal.returns-then-lower-eq0
returns-then-lower-eq0 c = none_before _ _ _ c.below-lower.ensures c.args.enter.now c.if-lower-eq0.true

pub returns : goal.returns
returns c = some_before _ _ _ c.below-lower.ensures c.args.enter.now _ _ c.highest.ensures.1 refl
