-- The lowest of those past the cart.
use Rattle.judge_entering.proofs.Sides.{behind_first}
use Rattle.judge_entering.proofs.next_behind.Goals as goal

pub returns : goal.returns
returns c = behind_first _ _ _ _ _ c.requires.1 c.below.ensures c.less.ensures c.first.ensures
