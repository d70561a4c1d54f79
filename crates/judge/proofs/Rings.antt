-- The ring that the tables tell is the plan's.
use Prim.Native.Nat.{ℕ, zero, suc, ◌+◌, ◌≤◌, ◌<◌}
use mathlib.Core.Path.{◌≡◌, sym, ap, ◌∙◌}
use mathlib.Core.Bool.{Bool, true, false, not}
use mathlib.Core.List.{List, []}
use native.Mathlib.Omega.{arith}
use native.Mathlib.Decide.{dec_lt}
use lib.ListN.{get_or}
use borrow.Author.Tests.{lt-ltb, le-ltb}
use Rattle.words.specs.Lists.{pick, entries}
use Rattle.sets.specs.inner.Member.{has}
use Rattle.moves.specs.System.{pos}
use Rattle.routes.specs.Lists.{first_of}
use Rattle.routes.specs.Crossing.{zone}
use Rattle.routes.specs.Lanes.{lane_holds}
use Rattle.routes.specs.Plans.{points_to}
use Rattle.sheet.specs.Valid.{Valid}
use Rattle.sheet.specs.declared.Sheet.{Sheet}
use Rattle.plan.specs.Valid.{ValidOrders}
use Rattle.plan.specs.Written.{count, listed}
use Rattle.plan.specs.declared.Orders.{Orders}
use Rattle.plan.proofs.Visitors.{step_cart, visitors_most}
use Rattle.plan.proofs.Lists.{listed_cart}
use Rattle.crossing.specs.inner.Tables.{sheet_fronts, sheet_crossing, LeftSet}
use Rattle.crossing.specs.Plans.{routes_of, lists_of, plan_crossing}
use Rattle.crossing.proofs.Fronts.{fronts_16}
use Rattle.judge_ring.specs.Ring.{ring_by, ring_of}
use Rattle.judge_ring.specs.inner.Tables.{wanted_in, Wanting, point_in, Listable, AllListable}
use Rattle.judge_ring.proofs.Same.{ring_same}
use Rattle.judge.proofs.Verdict.{plan_carts}
use Rattle.judge.proofs.Pointing.{wanted_is, points_is}

pick_below : (b : Bool) {most x y : ℕ} → x < most → y < most → pick b x y < most
pick_below true h _ = h
pick_below false _ h = h

first_below : (test : ℕ → Bool) (rule : ℕ → ℕ) (most n i : ℕ) → 0 < most → ((k : ℕ) → i ≤ k → k < i + n → rule k < most)
    → first_of test (entries n i rule) < most
unfolding first_of entries
first_below test rule most zero i some below = some
first_below test rule most (suc n) i some below =
    pick_below (test (rule i)) (below i (omega arith) (omega arith))
    (first_below test rule most n (i + 1) some (λ k a b. below k (omega arith) (omega arith)))

module _ (sheet : Sheet) (v : Valid sheet) (at : List ℕ) where
  pub wanted_below : (c : ℕ) → wanted_in sheet.steps sheet.zone at c < sheet.zones
  wanted_below c = go (dec_lt (get_or at c 0) (get_or sheet.steps c 0))
    where
      go : Dec (get_or at c 0 < get_or sheet.steps c 0) → wanted_in sheet.steps sheet.zone at c < sheet.zones
      go (yes h) = rw (lt-ltb (get_or at c 0) (get_or sheet.steps c 0) h) ((v.cart c (step_cart sheet v c (get_or at c 0) h)).step (get_or at c 0) h).zone_below
      go (no m) = rw (le-ltb (get_or at c 0) (get_or sheet.steps c 0) (omega (arith, m))) (omega (arith, v.zones_least))

  steps_few : (c : ℕ) → Dec (c < sheet.carts) → get_or sheet.steps c 0 ≤ 8
  steps_few c (yes l) = (v.cart c l).steps_most
  steps_few c (no m) = omega (arith, v.unused.no_steps c (omega (arith, m)))

  pub sheet_wanting : Wanting sheet.steps sheet.zone at
  sheet_wanting = record {
    steps_most = λ c _. steps_few c (dec_lt c sheet.carts);
    zone_below = λ c _. omega (arith, wanted_below c, v.zones_most);
  }

  module _ (orders : Orders) (w : ValidOrders sheet orders) where
    pub orders_listable : AllListable orders.count orders.list
    orders_listable z _ = go (dec_lt z sheet.zones)
      where
        go : Dec (z < sheet.zones) → Listable orders.count orders.list z
        go (yes l) = record {
          few = omega (arith, (w.list z l).all_visitors, visitors_most sheet z);
          cart = λ k h. omega (arith, listed_cart sheet v orders w z l k h, v.carts_most);
        }
        go (no m) =
            let none = w.unused.no_count z (omega (arith, m)) in
            record { few = omega (arith, none); cart = λ k h. absurd (omega (arith, none, h)) }

    module _ (left : List ℕ) (left_is : (z : ℕ) → LeftSet (sheet_crossing sheet orders.ahead) at z (get_or left z 0)) where
      pub point_below : (c : ℕ) → c < 16 → point_in sheet.steps sheet.zone (sheet_fronts sheet) orders.count orders.list at left c < 16
      point_below c few =
          let z = wanted_in sheet.steps sheet.zone at c in
          let l : z < 24 = omega (arith, wanted_below c, v.zones_most) in
          pick_below (lane_holds (sheet_crossing sheet []) at c) (omega (arith, fronts_16 sheet.steps sheet.zone sheet.lane c few))
          (first_below (λ d. not (has (get_or left z 0) d)) (listed orders z) 16 (count orders z) 0 (omega arith)
          (λ k _ b. (orders_listable z l).cart k (omega (arith, b))))

      -- where the carts stand at `at`, the tables tell whom each points to
      pub point_same : (c : ℕ) → c < 16 → point_in sheet.steps sheet.zone (sheet_fronts sheet) orders.count orders.list at left c
          ≡ points_to (plan_crossing sheet orders).front (routes_of sheet) (lists_of sheet orders) at c
      point_same c few = points_is sheet orders at v w left left_is c few (wanted_below c)

      pub ring_is : (c : ℕ) → c < 16
          → ring_by (point_in sheet.steps sheet.zone (sheet_fronts sheet) orders.count orders.list at left)
          (wanted_in sheet.steps sheet.zone at) 16 c
          ≡ ring_of (plan_crossing sheet orders).front (routes_of sheet) (lists_of sheet orders) at c
      ring_is c h =
          ring_same _ points 16 point_same point_below _ (λ d. zone (plan_crossing sheet orders) d (pos at d)) (λ d l. wanted_is sheet orders at d l) c h
          ∙ ap (λ (n : ℕ). ring_by points (λ d. zone (plan_crossing sheet orders) d (pos at d)) n c) (sym (plan_carts sheet orders))
        where
          points : ℕ → ℕ
          points = points_to (plan_crossing sheet orders).front (routes_of sheet) (lists_of sheet orders) at
