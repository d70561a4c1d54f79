-- What the settled tables tell is what judging answers: the ring of a locked plan, too little room, or the times.
use Prim.Native.Nat.{ℕ, ◌≤◌, ◌<◌}
use mathlib.Core.Path.{◌≡◌, refl, sym, ap, ◌∙◌}
use mathlib.Core.Bool.{true}
use mathlib.Core.List.{List, ◌++◌}
use lib.ListN.{length, drop}
use borrow.Author.Tests.{le-leb, lt-leb}
use Rattle.std.specs.Prelude.{Option, Some, None}
use Rattle.words.specs.Checks.{done, refused, first_failing}
use Rattle.moves.specs.System.{System, sum}
use Rattle.routes.specs.Crossing.{Crossing}
use Rattle.times.specs.Times.{largest, finish}
use Rattle.times.specs.inner.Times.{EnteringTimes}
use Rattle.sheet.specs.Valid.{Valid}
use Rattle.sheet.specs.declared.Sheet.{Sheet}
use Rattle.plan.specs.Valid.{ValidOrders}
use Rattle.plan.specs.declared.Orders.{Orders}
use Rattle.crossing.specs.inner.Tables.{sheet_fronts, sheet_crossing}
use Rattle.crossing.specs.Plans.{sheet_given}
use Rattle.crossing.specs.Plans.{routes_of, lists_of, plan_crossing}
use Rattle.crossing.proofs.Plans.{plan_system_lem}
use Rattle.judge_entering.specs.Times.{times_of}
use Rattle.judge_finish.specs.inner.Finish.{last_leaving}
use Rattle.judge_one_move.specs.declared.Run.{Run}
use Rattle.judge_ring.specs.Ring.{no_ring, ring_by, ring_of}
use Rattle.judge_ring.specs.inner.Tables.{wanted_in, point_in}
use Rattle.judge_ring.specs.declared.Ring.{Ring}
use Rattle.judge_running.proofs.Verdict.{settled_times}
use Rattle.judge_verdict.specs.inner.Verdict.{Runs}
use Rattle.times.proofs.Running.{end_says}
use Rattle.judge.specs.Judging.{plan_system, at_end, is_out, locked_ring, entering_time, not_judged}
use Rattle.judge.specs.inner.Held.{JudgedAs}
use Rattle.judge.proofs.Verdict.{settled_end, stuck_lowest, accepted, locked}
use Rattle.judge.proofs.Words.{finish_told, words_told}
use Rattle.judge.proofs.Rings.{ring_is}

module _ (sheet : Sheet) (orders : Orders) (v : Valid sheet) (w : ValidOrders sheet orders) (run : Run) (stuck : Option ℕ)
    (runs : Runs (sheet_crossing sheet orders.ahead) (sheet_given sheet) run stuck) (words : List ℕ) where
  abbrev X : Crossing
  X = sheet_crossing sheet orders.ahead

  ends : run.at ≡ at_end sheet orders
  ends = settled_end sheet orders v w (sheet_given sheet) run stuck runs

  pub locked_answer : (c : ℕ) → stuck ≡ Some c → (ring : Ring)
      → ring ≡ ring_by (point_in sheet.steps sheet.zone (sheet_fronts sheet) orders.count orders.list run.at run.left)
      (wanted_in sheet.steps sheet.zone run.at) 16 c
      → JudgedAs sheet orders words (not_judged (refused 22 0) ring) words
  unfolding first_failing locked_ring
  locked_answer c found ring is =
      let (few, lowest) = stuck_lowest sheet orders v w (sheet_given sheet) run stuck runs c found in
      let told : ring ≡ locked_ring sheet orders =
      is ∙ ring_is sheet v run.at orders w run.left runs.settled.left_is c few
      ∙ ap (λ (s : List ℕ). ring_of (plan_crossing sheet orders).front (routes_of sheet) (lists_of sheet orders) s c) ends
      ∙ ap (ring_of (plan_crossing sheet orders).front (routes_of sheet) (lists_of sheet orders) (at_end sheet orders)) lowest in
      rw (locked sheet orders v w (sheet_given sheet) run stuck runs c found) (ap (not_judged (refused 22 0)) told, refl)

  module _ (none : stuck ≡ None) where
    all_come : is_out sheet orders ≡ true
    all_come = accepted sheet orders v w (sheet_given sheet) run stuck runs none

    pub short_answer : length words < 128 → JudgedAs sheet orders words (not_judged (refused 28 0) no_ring) words
    unfolding first_failing
    short_answer l = rw (all_come, lt-leb 128 (length words) l) (refl, refl)

    all_out : run.at ≡ (plan_system sheet orders).out
    all_out = ends ∙ (end_says (plan_crossing sheet orders)).0 all_come

    times : EnteringTimes X (sheet_given sheet) (times_of run.enter)
    times = settled_times X (sheet_given sheet) run.at run.left run.enter run.order run.made runs.settled
        (all_out ∙ ap (λ (S : System). S.out) (sym (plan_system_lem sheet v orders w)))

    pub accepted_answer : 128 ≤ length words → (last : ℕ) → last ≡ largest (last_leaving sheet.steps sheet.passing run.enter) 16
        → (after : List ℕ) → after ≡ run.enter ++ drop 128 words
        → JudgedAs sheet orders words (record { outcome = done; finish = last; moves = run.made; ring = no_ring }) after
    unfolding first_failing
    accepted_answer l last is after copied = rw (all_come, le-leb 128 (length words) l) (
      ap (λ (n : ℕ). record { outcome = done; finish = n; moves = run.made; ring = no_ring }) (is ∙ finish_told sheet orders v w all_come run.enter times)
          ∙ ap (λ (n : ℕ). record {
            outcome = done;
            finish = finish (plan_crossing sheet orders) (sheet_given sheet) (entering_time sheet orders);
            moves
                = n;
            ring = no_ring;
          }) (runs.settled.counted ∙ ap sum all_out),
      copied ∙ ap (λ (t : List ℕ). t ++ drop 128 words) (words_told sheet orders v w all_come run.enter times runs.settled.enter_128
          (λ c p few n. runs.settled.not_entered c p few (λ e. n e.1))),
    )
