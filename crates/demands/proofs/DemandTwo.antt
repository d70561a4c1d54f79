-- Demand 2, a theorem a sentence, of whatever meets the operations' contracts.
use Prim.Native.Nat.{ℕ, zero, suc, ◌+◌, ◌*◌, ◌≤◌, ◌<◌}
use mathlib.Core.Path.{◌≡◌, refl, sym, ap, ◌∙◌}
use mathlib.Core.Bool.{true, false, true≢false, not-eq-not}
use mathlib.Core.List.{List, [], ◌∷◌}
use native.Mathlib.Omega.{arith}
use lib.ListN.{length, get_or, take, drop, get_or-append}
use lib.Seq.{take_at}
use lib.Dec.{leb, lit<}
use borrow.Author.Tests.{le-leb, leb-true}
use Rattle.words.specs.Checks.{Check, check, first_failing, AllPass}
use Rattle.words.proofs.All.{all_append, all_first, all_later}
use Rattle.words.proofs.First.{first_pass, pass_answers, done_passes}
use Rattle.words.proofs.Entries.{length_entries}
use Rattle.words.proofs.Tables.{used_at}
use Rattle.words.proofs.Tests.{ltb_says, leb_says}
use Rattle.words.proofs.Says.{Says, check_says, ◌then◌}
use Rattle.fields.specs.Bytes.{Bytes}
use Rattle.moves.specs.System.{pos, start, sum}
use Rattle.moves.specs.inner.Runs.{AllComeOut}
use Rattle.moves.proofs.Positions.{sum_most}
use Rattle.routes.specs.Crossing.{Crossing, steps}
use Rattle.routes.specs.Moves.{system}
use Rattle.routes.specs.inner.Lists.{Named}
use Rattle.routes.specs.inner.Plans.{Complete}
use Rattle.routes.specs.inner.Orders.{OnlyVisitors}
use Rattle.routes.proofs.Moves.{out_steps, meetable}
use Rattle.routes.proofs.Plans.{plan_visitors}
use Rattle.graph.specs.Graph.{Cyclic}
use Rattle.graph.proofs.StopLine.{graph_locked, graph_accepts, graph_agrees}
use Rattle.times.specs.Times.{Given, finish}
use Rattle.times.specs.inner.Times.{EnteringTimes, Ranged}
use Rattle.times.proofs.Entered.{entering_same}
use Rattle.times.proofs.Times.{times_least}
use Rattle.times.proofs.Rules.{times_keep}
use Rattle.times.proofs.Finish.{finish_most, finish_unique, finish_bound}
use Rattle.times.proofs.Published.{published_agrees}
use Rattle.times.proofs.Fronts.{front_first}
use Rattle.sheet.specs.Checks.{sheet_checks}
use Rattle.sheet.specs.Reading.{sheet_of, sheet_done, read_sheet}
use Rattle.sheet.specs.Valid.{Valid}
use Rattle.sheet.specs.declared.Sheet.{Sheet}
use Rattle.sheet.specs.declared.SheetRead.{SheetRead}
use Rattle.sheet.proofs.Passing.{SheetPasses, sheet_numbered, passes_accepted, accepted_passes}
use Rattle.sheet.proofs.Accepted.{accepted_valid}
use Rattle.plan.specs.Reading.{read_plan}
use Rattle.plan.specs.Valid.{plan_length}
use Rattle.plan.specs.Written.{written}
use Rattle.plan.specs.declared.Orders.{Orders}
use Rattle.plan.specs.declared.PlanRead.{PlanRead}
use Rattle.plan.proofs.Passing.{PlanPasses, reading_says, read_passes, passes_read}
use Rattle.plan.proofs.Readable.{readable_whole, readable_length, said_sheet, said_valid}
use Rattle.plan.proofs.RoundTrip.{written_readable}
use Rattle.plan_writer.specs.Writing.{writing_checks, not_written, wrote, write_again, room_after}
use Rattle.plan_writer.specs.declared.PlanWritten.{PlanWritten}
use Rattle.plan_writer.proofs.SameBytes.{same_bytes}
use Rattle.crossing.specs.inner.Tables.{crossing_by, sheet_fronts}
use Rattle.crossing.specs.Plans.{sheet_given, routes_of, lists_of, plan_crossing}
use Rattle.crossing.proofs.Tables.{step_below}
use Rattle.crossing.proofs.Plans.{plan_complete, plan_zones, plan_sound}
use Rattle.judge_entering.specs.Times.{times_of}
use Rattle.judge.specs.Judging.{is_out, entering_time, time_words, judged, with_times, orders_read, judge, words_after}
use Rattle.judge.specs.declared.Judged.{Judged}
use Rattle.judge.proofs.Verdict.{accepts_out}
use Rattle.judge.proofs.Words.{judged_times}
use Rattle.judge.proofs.Outcomes.{judge_locked, judge_accepted, words_accepted, number_locked, number_accepted}
use Rattle.moving.proofs.Counts.{moves_are}
use Rattle.planner.specs.Planning.{planned_orders, planned, not_planned, planning_checks, with_plan, plan_sheet, room_after as roomPlanned}
use Rattle.planner.specs.declared.Planned.{Planned}
use Rattle.planner.specs.declared.Rule.{Rule}
use Rattle.planner.proofs.NotLocked.{planned_read, planned_length, planned_finish, planned_judged}
use Rattle.demands.specs.DemandTwo as two
use Rattle.demands.specs.DemandTwo.{Readable, given, lined, Verdict, TimesTold, JudgedRightly, PlannedRightly, ReadBack, SameBytes}

-- no position is above the sum
pos_sum : (s : List ℕ) (c : ℕ) → pos s c ≤ sum s
pos_sum [] c = omega arith
pos_sum (x ∷ s) zero = omega arith
pos_sum (x ∷ s) (suc c) = omega (arith, pos_sum s c)

-- "0 with no carts": there are no steps then, so no move that a step could be of, and nothing is left
module _ (sheet : Sheet) (v : Valid sheet) (none : sheet.carts ≡ 0) where
  no_steps : sum sheet.steps ≡ 0
  no_steps = omega (arith, sum_most sheet.steps 0 (λ c. omega (arith, v.unused.no_steps c (omega (arith, none)))))

  pub finish_no_carts : (orders : Orders) (t : ℕ → ℕ → ℕ) → finish (plan_crossing sheet orders) (sheet_given sheet) t ≡ 0
  finish_no_carts orders t =
      let X = plan_crossing sheet orders in
      let most = finish_most X (sheet_given sheet) t 0 λ c j h.
      absurd (omega (arith, out_steps X c j h, pos_sum (system X).out c, moves_are sheet orders v, no_steps, none)) in
      omega (arith, most)

module _ (s p : List ℕ) where
  abbrev X : Crossing
  X = two.planned s p

  full : Readable s p → Complete (routes_of (sheet_of s)) (lists_of (sheet_of s) (orders_read s p))
  full readable = plan_complete (sheet_of s) (said_sheet s p readable) (orders_read s p) (said_valid s p readable)

  -- zones and lanes are numbered so that each stop line is a zone of its own
  zone_below : Readable s p → (c z : ℕ) → Named (get_or (routes_of (sheet_of s)) c []) z → z < (sheet_of s).zones
  zone_below readable = plan_zones (sheet_of s) (said_sheet s p readable) (orders_read s p) (said_valid s p readable)

  lane_below : Readable s p → (c : ℕ) → 0 < length (get_or (routes_of (sheet_of s)) c []) → (given s p).lane c < 16
  lane_below readable c some =
      omega (arith, (plan_sound (sheet_of s) (said_sheet s p readable) (orders_read s p) (said_valid s p readable)).ranged.lane_most c)

  -- the verdict is the published graph's, with the stop line
  locked_cyclic : Readable s p → is_out (sheet_of s) (orders_read s p) ≡ false → Cyclic (lined s p)
  locked_cyclic readable e =
      (graph_locked _ _ _ _ _ (full readable) (zone_below readable) (lane_below readable)).1
      (λ all. true≢false (sym ((accepts_out (sheet_of s) (orders_read s p)).1 all) ∙ e))

  accepted_acyclic : Readable s p → is_out (sheet_of s) (orders_read s p) ≡ true → ¬ (Cyclic (lined s p))
  accepted_acyclic readable e =
      (graph_accepts _ _ _ _ _ (full readable) (zone_below readable) (lane_below readable)).1 ((accepts_out (sheet_of s) (orders_read s p)).0 e)

  module _ (room : ℕ) (r : Judged) (is : r ≡ judge s p room) where
    number_is : r.outcome.number ≡ (judge s p room).outcome.number
    number_is = ap (λ (x : Judged). x.outcome.number) is

    -- "exactly if the resource conflict graph .. has a cycle; otherwise it is accepted once there is room for its times"
    pub verdict_published : Verdict s p room r
    verdict_published = record {
      locked = (
        λ e. let (readable, out) = number_locked s p room (sym number_is ∙ e) in (readable, locked_cyclic readable out),
        λ (readable, cyclic).
            let out : is_out (sheet_of s) (orders_read s p) ≡ false = (not-eq-not {b = false}).0 (λ e. accepted_acyclic readable e cyclic) in
            number_is ∙ ap (λ (x : Judged). x.outcome.number) (judge_locked s p readable out room),
      );
      accepted = (
        λ e. let (readable, out, long) = number_accepted s p room (sym number_is ∙ e) in (readable, accepted_acyclic readable out, long),
        λ (readable, acyclic, long).
            let out : is_out (sheet_of s) (orders_read s p) ≡ true = (not-eq-not {b = true}).0 (λ e. acyclic (locked_cyclic readable e)) in
            number_is ∙ ap (λ (x : Judged). x.outcome.number) (judge_accepted s p readable out room long),
      );
      of_moves = λ readable. graph_agrees _ _ _ _ _ (full readable) (zone_below readable) (lane_below readable);
    }

  -- the words hold the times that judging works out, and these are the only ones
  module _ (readable : Readable s p) (accepted : is_out (sheet_of s) (orders_read s p) ≡ true) (words after : List ℕ)
      (is : after ≡ with_times (sheet_of s) (orders_read s p) words) where
    abbrev G : Given
    G = given s p

    abbrev judged_time : ℕ → ℕ → ℕ
    judged_time = entering_time (sheet_of s) (orders_read s p)

    only : OnlyVisitors X
    only = plan_visitors X.front _ _ (full readable)

    all : AllComeOut (system X) (start (system X))
    all = (accepts_out (sheet_of s) (orders_read s p)).0 accepted

    ranged : Ranged X G
    unfolding crossing_by
    ranged =
        let same = (plan_sound (sheet_of s) (said_sheet s p readable) (orders_read s p) (said_valid s p readable)).ranged in
        record {
          carts_most = same.carts_most;
          steps_most = same.steps_most;
          lane_most = same.lane_most;
          arrival_most = same.arrival_most;
          passing_most = same.passing_most;
          travel_most = same.travel_most;
          follow_most = same.follow_most;
          cross_most = same.cross_most;
        }

    is_judged : EnteringTimes X G judged_time
    is_judged = judged_times (sheet_of s) (orders_read s p) (said_sheet s p readable) (said_valid s p readable) accepted

    word_is : (c j : ℕ) → j < steps X c → times_of after c j ≡ judged_time c j
    unfolding time_words crossing_by
    word_is c j h =
        let place : 8 * c + j < 128 = omega
        (arith, ranged.steps_most c, step_below (sheet_of s).steps (sheet_of s).zone (sheet_fronts (sheet_of s)) (orders_read s p).ahead c j h) in
        let sized : length (time_words (sheet_of s) (orders_read s p)) ≡ 128 = length_entries 128 0 _ in
        ap (λ (l : List ℕ). get_or l (8 * c + j) 0) is
        ∙ get_or-append (time_words (sheet_of s) (orders_read s p)) (drop 128 words) 0 (8 * c + j) (omega (arith, sized, place))
        ∙ used_at 128 8 (λ d k. ltb_says k (steps X d)) judged_time c j (omega (arith, ranged.steps_most c)) place h

    told : EnteringTimes X G (times_of after)
    told c j h =
        let reached = out_steps X c j h in
        word_is c j h ∙ is_judged c j h
        ∙ entering_same X G only judged_time (times_of after) (system X).out (λ d k _ l. sym (word_is d k l)) c j (omega (arith, reached)) h
        (λ d l. meetable X only c j d (omega (arith, reached)) l)

    -- "Entering times are those of the paper's equations, and are the earliest that its waiting rules allow."
    times_published : (r : Judged) → r ≡ judged (sheet_of s) (orders_read s p) → TimesTold s p r after
    times_published r e =
        let last : r.finish ≡ finish X G (times_of after) =
        ap (λ (x : Judged). x.finish) e ∙ finish_unique X G only all judged_time is_judged (times_of after) told in
        record {
          equations = (published_agrees X G (times_of after)).1 told;
          kept = times_keep X G only (times_of after) told;
          earliest = λ u keeps. times_least X G only all (times_of after) u told keeps;
          in_line = λ d c. front_first X c (times_of after) G told d;
          last = last;
          bound = omega (arith, last, finish_bound X G only all (times_of after) told ranged);
          counted = counted;
          no_carts = λ none. let v = said_sheet s p readable in (
            last ∙ finish_no_carts (sheet_of s) v none (orders_read s p) (times_of after),
            omega
                (arith, counted, no_steps (sheet_of s) v none),
          );
        }
      where
        counted : r.moves ≡ sum (sheet_of s).steps + (sheet_of s).carts
        counted = ap (λ (x : Judged). x.moves) e ∙ moves_are (sheet_of s) (orders_read s p) (said_sheet s p readable)

-- both sentences, of what judging answers and leaves in the words
pub judged_rightly : (s p words : List ℕ) (r : Judged) (after : List ℕ) → r ≡ judge s p (length words) → after ≡ words_after s p words → JudgedRightly
    s p (length words) r after
judged_rightly s p words r after e f = record {
  verdict = verdict_published s p (length words) r e;
  times = λ ok.
      let (readable, accepted, long) = number_accepted s p (length words) (sym (ap (λ (x : Judged). x.outcome.number) e) ∙ ok) in
      times_published s p readable accepted words after (f ∙ words_accepted s p readable accepted words long) r
      (e ∙ judge_accepted s p readable accepted (length words) long);
}

-- ---- the planner

module _ (rule : Rule) (s : List ℕ) where
  abbrev sheet : Sheet
  sheet = sheet_of s

  abbrev own_check : ℕ → List Check
  own_check room = check 28 0 (leb (plan_length sheet) room) ∷ []

  planning_passes : (room : ℕ) → (plan_sheet rule s room).outcome.number ≡ 0 → (read_sheet s ≡ sheet_done sheet) × (plan_length sheet ≤ room)
  unfolding plan_sheet
  planning_passes room e =
      let all : AllPass (planning_checks s room) =
      done_passes (λ (r : Planned). r.outcome) not_planned (planned sheet rule) (λ o. refl) (planning_checks s room)
      (all_append (λ (c : Check). 0 < c.number) (sheet_checks s) (own_check room) (sheet_numbered s) (omega arith, tt)) e in
      let own : leb (plan_length sheet) room ≡ true = (all_later (λ (c : Check). c.passed ≡ true) (sheet_checks s) (own_check room) all).0 in
      (passes_accepted s (all_first (λ (c : Check). c.passed ≡ true) (sheet_checks s) (own_check room) all), leb-true (plan_length sheet) room own)

  module _ (accepted : (read_sheet s).outcome.number ≡ 0) where
    planning_done : (room : ℕ) → plan_length sheet ≤ room → plan_sheet rule s room ≡ planned sheet rule
    unfolding plan_sheet first_failing
    planning_done room l = first_pass not_planned (planned sheet rule) (sheet_checks s) (own_check room) (accepted_passes s accepted) ∙ rw
        (le-leb (plan_length sheet) room l)

    room_done : (room : List ℕ) → plan_length sheet ≤ length room → roomPlanned rule s room ≡ with_plan rule s room
    unfolding roomPlanned first_failing
    room_done room l = first_pass (λ _. room) (with_plan rule s room) (sheet_checks s) (own_check (length room)) (accepted_passes s accepted) ∙ rw
        (le-leb (plan_length sheet) (length room) l)

  planned_outcome : (planned sheet rule).outcome.number ≡ 0
  unfolding planned
  planned_outcome = refl

  module _ (room : List ℕ) (r : Planned) (after : List ℕ) (is : r ≡ plan_sheet rule s (length room)) (holds : after ≡ roomPlanned rule s room) where
    told_number : r.outcome.number ≡ (plan_sheet rule s (length room)).outcome.number
    told_number = ap (λ (x : Planned). x.outcome.number) is

    module _ (ok : r.outcome.number ≡ 0) where
      read : read_sheet s ≡ sheet_done sheet
      read = (planning_passes (length room) (sym told_number ∙ ok)).0

      sheet_accepted : (read_sheet s).outcome.number ≡ 0
      sheet_accepted = ap (λ (x : SheetRead). x.outcome.number) read

      valid : Valid sheet
      valid = rw read at (accepted_valid s sheet_accepted)

      fits : plan_length sheet ≤ length room
      fits = (planning_passes (length room) (sym told_number ∙ ok)).1

      planned_is : r ≡ planned sheet rule
      planned_is = is ∙ planning_done sheet_accepted (length room) fits

      -- what stands at the start of the room
      plan_is : take r.length after ≡ written sheet.zones (planned_orders sheet rule)
      unfolding planned
      plan_is =
          ap (λ (x : Planned). take x.length after) planned_is
          ∙ ap (take (plan_length sheet)) (holds ∙ room_done sheet_accepted room fits)
          ∙ take_at (written sheet.zones (planned_orders sheet rule)) (drop (plan_length sheet) room) (plan_length sheet) (planned_length sheet valid rule)

    pub planned_rightly : PlannedRightly rule s room r after
    planned_rightly = record {
      answers = (
        λ ok. (sheet_accepted ok, fits ok),
        λ (accepted, l). told_number ∙ ap (λ (x : Planned). x.outcome.number) (planning_done accepted (length room) l) ∙ planned_outcome,
      );
      by_the_rule = λ ok. ap (read_plan s) (plan_is ok) ∙ planned_read sheet (valid ok) rule s (read ok);
      not_locked = λ ok words l.
          let judged-is = ap (λ (p : List ℕ). judge s p words) (plan_is ok) ∙ planned_judged sheet (valid ok) rule s (read ok) words l in (
            ap (λ (x : Judged). x.outcome.number) judged-is,
            ap (λ (x : Judged). x.finish) judged-is ∙ sym (planned_finish sheet (valid ok) rule) ∙ ap (λ (x : Planned). x.finish) (sym (planned_is ok)),
          );
    }

-- "Plans written are read back to the same orders"
pub plans_read_back : ReadBack
plans_read_back = written_readable

-- ---- writing again

module _ (s p room : List ℕ) where
  abbrev checks : List Check
  checks = writing_checks s p (length room)

  checks_say : Says checks ((SheetPasses s × PlanPasses (sheet_of s) p) × (plan_length (sheet_of s) ≤ length room))
  checks_say = reading_says s p then check_says _ (lit< tt) (leb_says (plan_length (sheet_of s)) (length room))

  plan_long : Readable s p → length p ≡ plan_length (sheet_of s)
  plan_long readable = (readable_length s p readable).0 ∙ ap (λ (x : PlanRead). plan_length x.sheet) (readable_whole s p readable)

  -- it is done where the plan is readable and there is room, and only there
  done_readable : (write_again s p (length room)).outcome.number ≡ 0 → Readable s p × (length p ≤ length room)
  unfolding write_again
  done_readable ok =
      let all = done_passes (λ (w : PlanWritten). w.outcome) not_written (wrote s) (λ o. refl) checks checks_say.numbered ok in
      let (passes, fits) = checks_say.passing all in
      let readable = ap (λ (x : PlanRead). x.outcome.number) (passes_read s p ((reading_says s p).passes passes)) in
      (readable, omega (arith, plan_long readable))

  readable_done : Readable s p → length p ≤ length room → write_again s p (length room) ≡ wrote s
  unfolding write_again
  readable_done readable fits =
      pass_answers not_written (wrote s) checks (checks_say.passes ((reading_says s p).passing (read_passes s p readable), omega (arith, plan_long readable)))

  -- "a readable plan written again gives the same bytes"
  pub written_again_same : (r : PlanWritten) (after : List ℕ) → Bytes p → r ≡ write_again s p (length room) → after ≡ room_after s p room → SameBytes s
      p room r after
  written_again_same r after b e f =
      let number_is : r.outcome.number ≡ (write_again s p (length room)).outcome.number = ap (λ (w : PlanWritten). w.outcome.number) e in
      record {
        answers = (
          λ ok. done_readable (sym number_is ∙ ok),
          λ (readable, fits). number_is ∙ ap (λ (w : PlanWritten). w.outcome.number) (readable_done readable fits),
        );
        same = λ ok. let (readable, fits) = done_readable (sym number_is ∙ ok) in (
          ap (λ (w : PlanWritten). w.length) (e ∙ readable_done readable fits) ∙ sym (plan_long readable),
          f ∙ same_bytes s p room b (sym number_is ∙ ok),
        );
      }
