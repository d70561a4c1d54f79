-- The largest of one cart more at each turn.
use native.Mathlib.Omega.{arith}
use Rattle.judge_finish.proofs.Largest.{largest_none, largest_next, largest_all}
use Rattle.judge_finish.proofs.finish_of.Goals as goal

pub loop-c-init : goal.loop-c-init
loop-c-init c = largest_none _

pub loop-c-preserved : goal.loop-c-preserved
loop-c-preserved c = largest_next _ _ _ _ _ c.loop-c.invariant c.last_leaving.ensures c.max-time.ensures

pub returns : goal.returns
returns c = largest_all _ _ _ (omega arith) c.loop-c.invariant
