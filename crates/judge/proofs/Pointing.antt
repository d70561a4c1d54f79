-- In a readable plan the tables tell which zone a cart wants and whom it points to: the table of fronts where the lane holds it, else the list.
use Prim.Native.Nat.{ℕ, zero, suc, ◌+◌, ◌-◌, ◌≤◌, ◌<◌}
use mathlib.Core.Path.{◌≡◌, refl, sym, ap, ◌∙◌}
use mathlib.Core.Bool.{Bool, false, not, not-eq-not}
use mathlib.Core.List.{List, []}
use native.Mathlib.Omega.{arith}
use native.Mathlib.Decide.{dec_lt, dec_le}
use lib.ListN.{length, get_or, get_or-eq_default}
use lib.Dec.{ltb}
use borrow.Author.Tests.{lt-ltb, le-ltb}
use Rattle.words.specs.Lists.{pick, entries}
use Rattle.words.proofs.Entries.{length_entries, get_d_entries, at_entry}
use Rattle.sets.specs.inner.Member.{has}
use Rattle.moves.specs.System.{pos}
use Rattle.routes.specs.Lists.{first_of}
use Rattle.routes.specs.Crossing.{Crossing, route, steps, zone, left_at}
use Rattle.routes.specs.inner.Crossing.{Visits}
use Rattle.routes.specs.Lanes.{lane_holds}
use Rattle.routes.specs.Plans.{list_of, plan, points_to}
use Rattle.routes.proofs.Lanes.{holds_says}
use Rattle.routes.proofs.Moves.{left_says}
use Rattle.sheet.specs.Valid.{Valid}
use Rattle.sheet.specs.declared.Sheet.{Sheet}
use Rattle.plan.specs.Valid.{passing_list, ValidOrders}
use Rattle.plan.specs.Written.{count, listed}
use Rattle.plan.specs.declared.Orders.{Orders}
use Rattle.crossing.specs.inner.Tables.{crossing_by, sheet_fronts, sheet_crossing, LeftSet}
use Rattle.crossing.specs.Plans.{routes_of, lists_of, plan_crossing}
use Rattle.crossing.proofs.Tables.{steps_is, zone_is}
use Rattle.crossing.proofs.Plans.{plan_complete, plan_fronts}
use Rattle.judge_ring.specs.inner.Tables.{wanted_in, point_in}

-- two tests that agree on a list have the same first
first_same : (test other : ℕ → Bool) (rule : ℕ → ℕ) (n i : ℕ) → ((k : ℕ) → i ≤ k → k < i + n → test (rule k) ≡ other (rule k))
    → first_of test (entries n i rule) ≡ first_of other (entries n i rule)
unfolding first_of entries
first_same test other rule zero i same = refl
first_same test other rule (suc n) i same =
    ap (λ (b : Bool). pick b (rule i) (first_of test (entries n (i + 1) rule))) (same i (omega arith) (omega arith))
    ∙ ap (pick (other (rule i)) (rule i)) (first_same test other rule n (i + 1) (λ k a b. same k (omega arith) (omega arith)))

module _ (sheet : Sheet) (orders : Orders) (at : List ℕ) where
  abbrev X : Crossing
  X = sheet_crossing sheet orders.ahead

  abbrev lists : List (List ℕ)
  lists = lists_of sheet orders

  pub wanted_is : (c : ℕ) → c < 16 → wanted_in sheet.steps sheet.zone at c ≡ zone (plan_crossing sheet orders) c (pos at c)
  unfolding crossing_by
  wanted_is c l = go (dec_lt (pos at c) (steps X c))
    where
      k : steps X c ≡ get_or sheet.steps c 0
      k = steps_is sheet.steps sheet.zone (sheet_fronts sheet) orders.ahead c l

      go : Dec (pos at c < steps X c) → wanted_in sheet.steps sheet.zone at c ≡ zone X c (pos at c)
      go (yes h) = rw (lt-ltb (get_or at c 0) (get_or sheet.steps c 0) (omega (arith, h, k)))
          (sym (zone_is sheet.steps sheet.zone (sheet_fronts sheet) orders.ahead c l (pos at c) h))
      go (no m) = rw (le-ltb (get_or at c 0) (get_or sheet.steps c 0) (omega (arith, m, k)))
          (sym (get_or-eq_default (route X c) 0 {n = pos at c} (omega (arith, m))))

  module _ (v : Valid sheet) (w : ValidOrders sheet orders) (left : List ℕ) (left_is : (z : ℕ) → LeftSet X at z (get_or left z 0)) where
    list_is : (z : ℕ) → z < sheet.zones → list_of lists z ≡ passing_list orders z
    list_is z l = get_d_entries sheet.zones 0 (passing_list orders) z [] l ∙ ap (passing_list orders) (omega arith)

    -- of a cart that visits the zone, the set and the position say the same
    left_same : (d z : ℕ) → Visits X d z → not (has (get_or left z 0) d) ≡ ltb (pos at d) (left_at X d z)
    left_same d z visit = go (dec_le (left_at X d z) (pos at d))
      where
        go : Dec (left_at X d z ≤ pos at d) → not (has (get_or left z 0) d) ≡ ltb (pos at d) (left_at X d z)
        go (yes h) = rw (le-ltb (pos at d) (left_at X d z) h, (left_is z d).1 ((left_says X at d z visit).0 h))
        go (no m) =
            let out : has (get_or left z 0) d ≡ false = (not-eq-not {b = false}).0 (λ t. m ((left_says X at d z visit).1 ((left_is z d).0 t))) in
            rw (lt-ltb (pos at d) (left_at X d z) (omega (arith, m)), out)

    listed_visits : (z : ℕ) → z < sheet.zones → (k : ℕ) → k < count orders z → Visits X (listed orders z k) z
    unfolding crossing_by
    listed_visits z l k h =
        let long : length (list_of lists z) ≡ count orders z = ap length (list_is z l) ∙ length_entries (count orders z) 0 (listed orders z) in
        let here : get_or (list_of lists z) k 0 ≡ listed orders z k =
        ap (λ (list : List ℕ). get_or list k 0) (list_is z l) ∙ at_entry (count orders z) (listed orders z) k h in
        (plan_complete sheet v orders w).only_visitors z (listed orders z k) (k, omega (arith, long, h), here)

    -- who is in front counts for a cart with a route alone
    front_counts : (c f g : ℕ) → (0 < steps X c → f ≡ g) → points_to (λ _. f) (routes_of sheet) lists at c ≡ points_to (λ _. g) (routes_of sheet) lists at c
    unfolding crossing_by
    front_counts c f g same = go (dec_lt 0 (steps X c))
      where
        free : ¬ (0 < steps X c) → (f : ℕ) → lane_holds (plan (λ _. f) (routes_of sheet) lists) at c ≡ false
        free none f =
            (not-eq-not {b = false}).0 λ t. let (_, (_, (front, _))) = (holds_says (plan (λ _. f) (routes_of sheet) lists) at c).0 t in none front.here

        go : Dec (0 < steps X c) → points_to (λ _. f) (routes_of sheet) lists at c ≡ points_to (λ _. g) (routes_of sheet) lists at c
        go (yes some) = ap (λ (f : ℕ). points_to (λ _. f) (routes_of sheet) lists at c) (same some)
        go (no none) = rw (free none f, free none g)

    pub points_is : (c : ℕ) → c < 16 → wanted_in sheet.steps sheet.zone at c < sheet.zones
        → point_in sheet.steps sheet.zone (sheet_fronts sheet) orders.count orders.list at left c
        ≡ points_to (plan_crossing sheet orders).front (routes_of sheet) lists at c
    unfolding crossing_by
    points_is c l h =
        let z = wanted_in sheet.steps sheet.zone at c in
        let test : ℕ → Bool = λ d. ltb (pos at d) (left_at X d z) in
        let listed_is =
        first_same (λ d. not (has (get_or left z 0) d)) test (listed orders z) (count orders z) 0
        (λ k _ b. left_same (listed orders z k) z (listed_visits z h k (omega (arith, b))))
        ∙ ap (first_of test) (sym (list_is z h))
        ∙ ap (λ (y : ℕ). first_of (λ d. ltb (pos at d) (left_at X d y)) (list_of lists y)) (wanted_is c l) in
        ap (pick (lane_holds X at c) (X.front c - 1)) listed_is
        ∙ front_counts c (X.front c) ((plan_crossing sheet orders).front c) (plan_fronts sheet v orders w c)
