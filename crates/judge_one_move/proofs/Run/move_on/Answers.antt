-- The entering time is not before the travel time, which the leaving time is less.
use mathlib.Core.Path.{ap, ◌∙◌}
use Rattle.judge_entering.proofs.Latest.{latest_past}
use Rattle.judge_one_move.specs.declared.Run.{Run}
use Rattle.judge_one_move.proofs.Run.move_on.Goals as goal

pub overflow_sub-time : goal.overflow_sub-time
overflow_sub-time c = latest_past _ _ _ _ _ c.enter_zone-time.ensures.0

pub returns-clause-gone : goal.returns-clause-gone
returns-clause-gone c = record {
  time = c.enter_zone-time.result;
  time_is = rw (c.passing.ensures, c.travel-travel.ensures) at c.enter_zone-time.ensures.0;
  entered_is = ap (λ (run : Run). run.enter) c.leave_zone.ensures.others ∙ c.enter_zone-time.ensures.1;
  zone_left = rw (c.zone.ensures, c.travel-travel.ensures) at c.leave_zone.ensures.gone;
}
