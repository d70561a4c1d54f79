-- Where the carts have settled, the lowest that is stuck tells the verdict.
use Rattle.judge_verdict.proofs.Stuck.{runs}
use Rattle.judge_verdict.proofs.verdict_of.Goals as goal

pub returns : goal.returns
returns c = runs _ _ _ _ _ _ c.settle.ensures _ c.lowest_stuck.ensures
