-- The ones of the set of carts ahead and not gone are as many as the carts ahead in the list that have not left;
-- and the lane holds a cart over the sheet's table of fronts as it does in the plan.
use Prim.Native.Nat.{ℕ, ◌+◌, ◌*◌, ◌≤◌, ◌<◌}
use mathlib.Core.Path.{◌≡◌, refl, sym, ap, ◌∙◌}
use mathlib.Core.Logic.{◌↔◌}
use mathlib.Core.Bool.{Bool, true, false, not, ◌&&◌, false≢true}
use mathlib.Core.List.{List, []}
use native.Mathlib.Nat.{lt_of_not-le}
use native.Mathlib.Omega.{arith}
use lib.ListN.{get_or}
use lib.Dec.{ltb}
use borrow.Author.Tests.{lt-ltb, le-ltb}
use Rattle.words.proofs.Entries.{get_d_entries}
use Rattle.sets.specs.inner.Member.{has}
use Rattle.sets.specs.Counting.{bit, count_below}
use Rattle.sets.proofs.Counting.{count_same}
use Rattle.moves.specs.System.{pos}
use Rattle.routes.specs.Lists.{is_ahead}
use Rattle.routes.specs.inner.Lists.{Named}
use Rattle.routes.specs.Crossing.{Crossing, steps, zone, left_at}
use Rattle.routes.specs.inner.Crossing.{Visits}
use Rattle.routes.specs.Lanes.{lane_holds}
use Rattle.routes.specs.Plans.{list_of}
use Rattle.routes.specs.inner.Plans.{Complete}
use Rattle.routes.proofs.Ahead.{ahead_named}
use Rattle.routes.proofs.Moves.{left_says}
use Rattle.sheet.specs.Valid as valid
use Rattle.sheet.specs.Valid.{Valid}
use Rattle.sheet.specs.declared.Sheet.{Sheet}
use Rattle.plan.specs.Valid.{passing_list, ValidOrders}
use Rattle.plan.specs.declared.Orders.{Orders}
use Rattle.plan.proofs.Visitors.{step_valid}
use Rattle.plan.proofs.Lists.{ahead_list}
use Rattle.crossing.specs.inner.Tables.{crossing_by, sheet_fronts, sheet_crossing, LeftSet}
use Rattle.crossing.specs.Plans.{routes_of, lists_of, plan_crossing}
use Rattle.crossing.proofs.Tables.{steps_is, zone_is, step_below}
use Rattle.crossing.proofs.Plans.{plan_complete, plan_fronts}
use Rattle.moving_asking.specs.Ahead.{count_ahead, ahead_of}
use Rattle.moving_asking.proofs.Counted.{count_ahead_lem}

module _ (sheet : Sheet) (v : Valid sheet) (orders : Orders) (w : ValidOrders sheet orders) (at : List ℕ) (c : ℕ) (l : c < 16)
    (h : pos at c < get_or sheet.steps c 0) where
  abbrev X : Crossing
  X = sheet_crossing sheet orders.ahead

  -- the step that the cart wants to enter, and its zone
  abbrev p : ℕ
  p = pos at c

  abbrev wanted : ℕ
  wanted = valid.zone sheet c p

  abbrev list : List ℕ
  list = list_of (lists_of sheet orders) wanted

  list_is : list ≡ passing_list orders wanted
  list_is =
      get_d_entries sheet.zones 0 (passing_list orders) wanted [] (step_valid sheet v c p h).zone_below
      ∙ ap (passing_list orders) (omega arith)

  inside : p < steps X c
  inside = omega (arith, steps_is sheet.steps sheet.zone (sheet_fronts sheet) orders.ahead c l)

  here : zone X c p ≡ wanted
  here = zone_is sheet.steps sheet.zone (sheet_fronts sheet) orders.ahead c l p inside

  complete : Complete (routes_of sheet) (lists_of sheet orders)
  complete = plan_complete sheet v orders w

  named_visits : (d : ℕ) → Named list d → Visits X d wanted
  unfolding crossing_by
  named_visits = complete.only_visitors wanted

  module _ (left : ℕ) (left_is : LeftSet X at wanted left) where
    -- who has not left is short of the position at which it has
    not_left : (d : ℕ) → Visits X d wanted → not (has left d) ≡ ltb (pos at d) (left_at X d wanted)
    not_left d visit = go (has left d) refl
      where
        says : (left_at X d wanted ≤ pos at d) ↔ (has left d ≡ true)
        says = (λ k. (left_is d).1 ((left_says X at d wanted visit).0 k), λ e. (left_says X at d wanted visit).1 ((left_is d).0 e))

        go : (b : Bool) → has left d ≡ b → not b ≡ ltb (pos at d) (left_at X d wanted)
        go true e = sym (le-ltb (pos at d) (left_at X d wanted) (says.1 e))
        go false e = sym (lt-ltb (pos at d) (left_at X d wanted) (lt_of_not-le (λ k. false≢true (sym e ∙ says.0 k))))

    ahead_gone : (d : ℕ) → (has (get_or orders.ahead (8 * c + p) 0) d && not (has left d)) ≡ (is_ahead list c d && ltb (pos at d) (left_at X d wanted))
    ahead_gone d = rw (ahead_list sheet v orders w c p h d, ← list_is) (go (is_ahead list c d) refl)
      where
        go : (b : Bool) → is_ahead list c d ≡ b → (b && not (has left d)) ≡ (b && ltb (pos at d) (left_at X d wanted))
        go true e = not_left d (named_visits d (ahead_named list c d e))
        go false e = refl

    listed_counted : count_below 16 (λ d. has (get_or orders.ahead (8 * c + p) 0) d && not (has left d))
        ≡ count_ahead (λ d. ltb (pos at d) (left_at X d wanted)) list c
    listed_counted =
        count_same 16 _ _ (λ d _. ahead_gone d)
        ∙ sym (count_ahead_lem 16 (λ d. ltb (pos at d) (left_at X d wanted)) list c (complete.once wanted)
        (λ d n. let (j, m, _) = named_visits d n in step_below sheet.steps sheet.zone (sheet_fronts sheet) orders.ahead d j m))

    pub ahead_counted : count_below 16 (λ d. has (get_or orders.ahead (8 * c + p) 0) d && not (has left d)) + bit (lane_holds X at c)
        ≡ ahead_of (plan_crossing sheet orders).front (routes_of sheet) (lists_of sheet orders) at c
    unfolding ahead_of crossing_by
    ahead_counted =
        rw (here, plan_fronts sheet v orders w c (omega (arith, inside)))
        (ap (λ (n : ℕ). n + bit (lane_holds (plan_crossing sheet orders) at c)) listed_counted)
