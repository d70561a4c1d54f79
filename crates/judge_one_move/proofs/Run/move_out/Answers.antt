-- The zone and the passing time are the step's.
use Rattle.judge_one_move.proofs.Run.move_out.Goals as goal

pub returns-clause-gone : goal.returns-clause-gone
returns-clause-gone c = rw (c.zone.ensures, c.passing.ensures) at c.leave_zone.ensures.gone
