-- What the tables hold where all carts are out: the entering times of document 01 as 128 words, and the finish.
use Prim.Native.Nat.{ℕ, ◌/◌, ◌%◌, ◌≤◌, ◌<◌}
use mathlib.Core.Path.{◌≡◌, sym, ap, ◌∙◌}
use mathlib.Core.Bool.{true}
use mathlib.Core.List.{List}
use native.Mathlib.Decide.{dec_lt}
use native.Mathlib.Nat.{mod-lt, div-add-mod}
use native.Mathlib.Omega.{arith}
use lib.ListN.{length, get_or, get_or-eq_default}
use lib.Dec.{ltb}
use borrow.Author.Tests.{lt-ltb, le-ltb}
use Rattle.words.specs.Lists.{pick}
use Rattle.words.specs.Limits.{most_time}
use Rattle.words.specs.inner.Limits.{latest_entering}
use Rattle.words.proofs.Entries.{entries_is}
use Rattle.routes.specs.Crossing.{Crossing, steps}
use Rattle.routes.specs.inner.Orders.{OnlyVisitors}
use Rattle.routes.proofs.Plans.{plan_visitors}
use Rattle.times.specs.Times.{largest, Given, finish}
use Rattle.times.specs.inner.Times.{EnteringTimes}
use Rattle.times.proofs.Rules.{times_keep}
use Rattle.times.proofs.Times.{times_unique}
use Rattle.times.proofs.Finish.{finish_unique}
use Rattle.times.proofs.Running.{all_made, entering_made}
use Rattle.sheet.specs.Valid as valid
use Rattle.sheet.specs.Valid.{Valid}
use Rattle.sheet.specs.declared.Sheet.{Sheet}
use Rattle.plan.specs.Valid.{ValidOrders}
use Rattle.plan.specs.declared.Orders.{Orders}
use Rattle.plan.proofs.Visitors.{step_valid, steps_most}
use Rattle.crossing.specs.inner.Tables.{crossing_by, sheet_crossing, sheet_fronts}
use Rattle.crossing.specs.Plans.{sheet_given}
use Rattle.crossing.specs.Plans.{routes_of, lists_of, plan_crossing}
use Rattle.crossing.proofs.Plans.{plan_complete, plan_only, plan_entering}
use Rattle.judge_entering.specs.Times.{times_of}
use Rattle.judge_entering.specs.inner.Times.{AtMost}
use Rattle.judge_finish.specs.inner.Finish.{last_leaving, Leavable}
use Rattle.judge_finish.proofs.Finish.{finish_is}
use Rattle.judge.specs.Judging.{is_out, entering_time, time_words}

module _ (sheet : Sheet) (v : Valid sheet) where
  passing_most : AtMost most_time sheet.passing
  passing_most x = go (dec_lt x 128)
    where
      step : Dec (x % 8 < valid.steps sheet (x / 8)) → valid.passing sheet (x / 8) (x % 8) ≤ most_time
      step (yes h) = (step_valid sheet v (x / 8) (x % 8) h).passing_most
      step (no m) = omega (arith, v.unused.no_passing (x / 8) (x % 8) (mod-lt x (omega arith)) (omega (arith, m)))

      go : Dec (x < 128) → get_or sheet.passing x 0 ≤ most_time
      go (yes _) = rw (div-add-mod x 8) at (step (dec_lt (x % 8) (valid.steps sheet (x / 8))))
      go (no m) = omega (arith, get_or-eq_default sheet.passing 0 {n = x} (omega (arith, m, v.shaped.passing_128)))

  pub sheet_leavable : (enter : List ℕ) → AtMost latest_entering enter → Leavable sheet.steps sheet.passing enter
  sheet_leavable enter most = record { steps_most = λ c _. steps_most sheet v c; passing_most = passing_most; enter_most = most }

module _ (sheet : Sheet) (orders : Orders) (v : Valid sheet) (w : ValidOrders sheet orders) where
  abbrev X : Crossing
  X = sheet_crossing sheet orders.ahead

  abbrev P : Crossing
  P = plan_crossing sheet orders

  abbrev G : Given
  G = sheet_given sheet

  only : OnlyVisitors P
  only = plan_visitors P.front (routes_of sheet) (lists_of sheet orders) (plan_complete sheet v orders w)

  module _ (accepted : is_out sheet orders ≡ true) where
    -- "Entering times are those of the paper's equations"
    pub judged_times : EnteringTimes P G (entering_time sheet orders)
    judged_times = entering_made P G only accepted

    module _ (enter : List ℕ) (is : EnteringTimes X G (times_of enter)) where
      is_plan : EnteringTimes P G (times_of enter)
      unfolding crossing_by
      is_plan c s h = is c s h ∙ plan_entering sheet v orders w G (times_of enter) c s h

      pub finish_told : largest (last_leaving sheet.steps sheet.passing enter) 16 ≡ finish P G (entering_time sheet orders)
      unfolding crossing_by finish
      finish_told =
          finish_is sheet.steps sheet.zone (sheet_fronts sheet) orders.ahead sheet.lane sheet.arrival sheet.passing sheet.travel
          sheet.follow
          sheet.cross enter
          (times_keep X G (plan_only sheet v orders w) (times_of enter) is)
          ∙ finish_unique P G only (all_made P accepted) (times_of enter) is_plan (entering_time sheet orders) judged_times

      pub words_told : length enter ≡ 128 → ((c p : ℕ) → p < 8 → ¬ (p < steps X c) → times_of enter c p ≡ 0) → enter ≡ time_words sheet orders
      unfolding time_words crossing_by
      words_told long unused = entries_is enter 128 _ long λ x l. ap (λ (y : ℕ). get_or enter y 0) (sym (div-add-mod x 8)) ∙ go x
          (dec_lt (x % 8) (steps P (x / 8)))
        where
          go : (x : ℕ) → Dec (x % 8 < steps P (x / 8)) → times_of enter (x / 8) (x % 8) ≡ pick (ltb (x % 8) (steps P (x / 8)))
              (entering_time sheet orders (x / 8) (x % 8)) 0
          go x (yes h) = rw (lt-ltb (x % 8) (steps P (x / 8)) h) (times_unique P G only (all_made P accepted) (times_of enter)
              (entering_time sheet orders) is_plan judged_times (x / 8) (x % 8) h)
          go x (no m) = rw (le-ltb (x % 8) (steps P (x / 8)) (omega (arith, m))) (unused (x / 8) (x % 8) (mod-lt x (omega arith)) m)
