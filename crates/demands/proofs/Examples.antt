-- The table's one claim, by computation.
use mathlib.Core.Path.{refl}
use Rattle.words.specs.Lists.{All, any_below, entries, each}
use Rattle.words.specs.Checks.{first_failing}
use Rattle.fields.specs.Field.{value, field_checks}
use Rattle.fields.specs.Bytes.{bytes_of}
use Rattle.sets.specs.Counting.{count_below, set_below}
use Rattle.moves.specs.Search.{lowest}
use Rattle.moves.specs.Moves.{is_permitted}
use Rattle.moves.specs.Runs.{greedy, end}
use Rattle.moves.specs.Records.{is_in_range, is_closed}
use Rattle.moves.specs.Values.{put, worked_out}
use Rattle.moves.specs.Rings.{least_from, between, ring_first, ring_rest}
use Rattle.moves.specs.Chains.{held_for}
use Rattle.routes.specs.Lanes.{highest, next_in_front}
use Rattle.routes.specs.Lists.{all_below, place_of, is_ahead, first_of}
use Rattle.times.specs.Times.{largest, entering, finish}
use Rattle.sheet.specs.Layout.{cart_at}
use Rattle.sheet.specs.Checks.{sheet_checks, zone_checks, step_checks, cart_checks, lane_checks}
use Rattle.sheet.specs.Reading.{sheet_of, read_sheet}
use Rattle.plan.specs.Layout.{count_at}
use Rattle.plan.specs.Checks.{plan_checks, list_checks, cart_checks as planCartChecks, lane_checks as planLaneChecks}
use Rattle.plan.specs.Reading.{orders_of, read_plan}
use Rattle.plan.specs.Valid.{sum_below}
use Rattle.plan.specs.Written.{list_bytes, lists_bytes, written}
use Rattle.crossing.specs.Plans.{given_by, orders_by}
use Rattle.judge_ring.specs.Ring.{lowest_stuck, ring_from}
use Rattle.judge.specs.Judging.{locked_ring, time_words, judge, words_after}
use Rattle.removal.specs.Pairs.{is_decided, rank, is_pair}
use Rattle.removal.specs.Present.{pair_order, goes_before, is_undecided}
use Rattle.times.specs.Running.{moves_made, is_out, entering_time}
use Rattle.removal.specs.Spare.{worked_back, least_of, spare_rule, spare_time}
use Rattle.removal.specs.Cost.{is_taken_over, cost, largest_cost}
use Rattle.removal.specs.While.{turns, while}
use Rattle.removal.specs.Removal.{candidates, decide, turn, trial, solved, decisions, final_orders, passing_lists}
use Rattle.planner.specs.Planning.{ordered_by, planned, plan_sheet, room_after}
use Rattle.moving_record.specs.Record.{is_reached}
use Rattle.moving_asking.specs.Ahead.{count_ahead, ahead_of}
use Rattle.moving_asking.specs.Asking.{ask}
use Rattle.moving_why.specs.Why.{chain_from, why}
use Rattle.moving.specs.Moving.{record_after}
use Rattle.net_text.specs.Lines.{bytes, line_text, text_of, own_lines, other_lines, position_lines, cart_lines, net_lines, net_text}
use Rattle.demands.specs.Examples.{first_cost, leaving_times, Holds, sheet_s, plan_a, plan_b, sheet_l, plan_l, examples, stop_line, why_not, beside_judge}
use Rattle.demands.proofs.PetriNet.{net_is}

-- all tables, by computing
all_hold : All Holds examples × All Holds stop_line × All Holds why_not × All Holds beside_judge
unfolding first_cost leaving_times plan_sheet room_after planned ordered_by orders_by passing_lists final_orders decisions solved trial turn decide candidates while turns largest_cost cost is_taken_over spare_time spare_rule least_of worked_back moves_made is_out entering_time is_undecided goes_before pair_order is_pair rank is_decided written lists_bytes list_bytes bytes_of sum_below set_below read_sheet read_plan judge words_after ask record_after why chain_from held_for ahead_of count_ahead is_reached is_in_range is_closed locked_ring time_words lowest_stuck ring_from next_in_front highest lowest is_permitted greedy end put worked_out least_from between ring_first ring_rest all_below place_of is_ahead first_of largest entering finish given_by orders_of sheet_checks zone_checks step_checks cart_checks lane_checks first_failing field_checks value each entries any_below count_below cart_at sheet_of count_at plan_checks list_checks planCartChecks planLaneChecks net_text net_lines cart_lines position_lines own_lines other_lines text_of line_text bytes
all_hold = (
  (
    (refl, refl),
    (
      refl,
      (
        (refl, refl),
        (
          (refl, refl),
          (
            refl,
            (
              refl,
              (
                refl,
                (
                  refl,
                  (
                    (refl, refl),
                    (
                      refl,
                      (
                        refl,
                        (
                          refl,
                          (
                            (refl, refl),
                            (
                              (refl, refl),
                              ((refl, refl), ((refl, refl), ((refl, refl), ((refl, refl), ((refl, refl), ((refl, refl), ((refl, refl), tt))))))),
                            ),
                          ),
                        ),
                      ),
                    ),
                  ),
                ),
              ),
            ),
          ),
        ),
      ),
    ),
  ),
  ((refl, refl), ((refl, refl), ((refl, refl), tt))),
  (refl, (refl, (refl, (refl, (refl, (refl, (refl, tt))))))),
  (
    net_is (sheet_s 1) plan_a 736,
    (net_is (sheet_s 1) plan_b 736, (net_is (sheet_s 1) plan_b 735, (net_is sheet_l plan_l 483, (net_is (sheet_s 0) plan_b 736, tt)))),
  ),
)

pub examples_hold : All Holds examples
examples_hold = all_hold.0

-- rows of our own for request #102
pub stop_line_holds : All Holds stop_line
stop_line_holds = all_hold.1

-- and for request #105
pub why_not_holds : All Holds why_not
why_not_holds = all_hold.2

-- and for request #106
pub beside_judge_holds : All Holds beside_judge
beside_judge_holds = all_hold.3
