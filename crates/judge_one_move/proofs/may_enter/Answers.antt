-- The zone is the step's.
use Rattle.judge_one_move.proofs.may_enter.Goals as goal

pub returns : goal.returns
returns c = rw c.zone-z.ensures at c.within.ensures
