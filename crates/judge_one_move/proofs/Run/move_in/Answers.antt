-- The entering time is told as it was found.
use Rattle.judge_one_move.proofs.Run.move_in.Goals as goal

pub returns-clause-gone : goal.returns-clause-gone
returns-clause-gone c = record {
  time = c.enter_zone.result;
  time_is = rw (c.max-ready.ensures, c.arrival.ensures, c.front_enters-line.ensures) at c.enter_zone.ensures.0;
  entered_is = c.enter_zone.ensures.1;
}
