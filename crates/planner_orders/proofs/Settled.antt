-- Tables that stand for orders, those present too: the carts that settle over them tell whether the moves have a cycle, and the entering times.
use Prim.Native.Nat.{ℕ, ◌+◌, ◌*◌, ◌<◌}
use mathlib.Core.Path.{◌≡◌, refl, sym, ap, ◌∙◌, subst}
use mathlib.Core.Logic.{◌↔◌}
use mathlib.Core.Bool.{Bool, true}
use mathlib.Core.List.{List, []}
use native.Mathlib.Decide.{dec_lt}
use native.Mathlib.Omega.{arith}
use lib.ListN.{length, get_or, get_or-eq_default}
use Rattle.words.proofs.Entries.{length_entries}
use Rattle.words.proofs.Tests.{and_both}
use Rattle.moves.specs.System.{System, start}
use Rattle.moves.specs.inner.Runs.{AllComeOut}
use Rattle.routes.specs.Lists.{is_named}
use Rattle.routes.specs.inner.Lists.{Named}
use Rattle.routes.specs.Crossing.{Crossing, steps}
use Rattle.routes.specs.Moves.{system}
use Rattle.routes.specs.inner.Orders.{NamesOnce, OnlyVisitors}
use Rattle.routes.proofs.Places.{named_says}
use Rattle.times.specs.Times.{Given, entering}
use Rattle.times.specs.inner.Times.{EnteringTimes, Ranged}
use Rattle.times.proofs.Times.{times_unique}
use Rattle.times.proofs.SameOrders.{system_same, entering_orders}
use Rattle.crossing.specs.inner.Tables.{fronts_by, crossing_by}
use Rattle.crossing.specs.Plans.{route_of, given_by}
use Rattle.crossing.specs.inner.Sound.{Sound}
use Rattle.crossing.proofs.Tables.{step_below, route_is, steps_is, before_is}
use Rattle.crossing.proofs.Fronts.{fronts_are}
use Rattle.judge_entering.specs.Times.{times_of}
use Rattle.judge_running.specs.inner.Settled.{SettlesAs}
use Rattle.judge_running.proofs.Verdict.{settled_out, settled_times}
use Rattle.removal.specs.Pairs.{Unplanned, Order, visits}
use Rattle.removal.specs.Present.{goes_before, present}
use Rattle.times.specs.Running.{moves_made, is_out, entering_time}
use Rattle.removal.proofs.Pairs.{visits_says}
use Rattle.removal.proofs.Present.{present_both, present_visitors}
use Rattle.times.proofs.Running.{out_says, all_made, entering_made}
use Rattle.planner_orders.specs.inner.Unplanned.{unplanned_by, ordered}
use Rattle.planner_orders.specs.inner.Stands.{StandsFor}
use Rattle.planner_orders.specs.inner.Holds.{Holds}

-- who goes before another in a zone visits it, and so does the other
pub goes_visits : (U : Unplanned) (low high : ℕ) (decided : List Order) (z d c : ℕ) → goes_before U low high decided z d c ≡ true
    → (visits U d z ≡ true) × (visits U c z ≡ true)
goes_visits U low high decided z d c e =
    let (v, w) = present_both U low high decided z d c e in
    ((visits_says U d z).1 v, (visits_says U c z).1 w)

pub holds_stands : (U : Unplanned) (low high : ℕ) (decided : List Order) (ahead behind undecided : List ℕ) → Holds U low high decided ahead behind undecided
    → StandsFor U (present U low high decided) ahead
holds_stands U low high decided ahead behind undecided holds = record {
  sheet_sized = holds.sheet_sized;
  ahead_is = λ c j d h. (holds.at_step c j h).ahead_is d;
}

-- the tables of a sheet, and of orders of visitors
module _ (step_table zone_table lane arrival passing travel follow cross : List ℕ) (zones carts : ℕ) where
  abbrev U' : Unplanned
  U' = unplanned_by step_table zone_table lane arrival passing travel follow cross zones carts

  abbrev G : Given
  G = given_by lane arrival passing travel follow cross

  abbrev front_table : List ℕ
  front_table = fronts_by step_table zone_table lane

  module _ (before : ℕ → ℕ → ℕ → Bool) (only : OnlyVisitors (ordered U' before)) (ahead : List ℕ) (stands : StandsFor U' (ordered U' before) ahead) where
    abbrev X : Crossing
    X = crossing_by step_table zone_table front_table ahead

    abbrev Z : Crossing
    Z = ordered U' before

    once : NamesOnce X
    unfolding crossing_by
    once = stands.sheet_sized.able.once

    agree : (z d c : ℕ) → Named (get_or U'.routes c []) z → X.before z d c ≡ Z.before z d c
    unfolding crossing_by
    agree z d c (j, h, at) =
        let l = step_below step_table zone_table front_table ahead c j h in
        before_is step_table zone_table front_table ahead c l once j d z h at
        ∙ stands.ahead_is c j d h
        ∙ ap (λ (y : ℕ). Z.before y d c) at

    -- the carts in front are the same
    fronts : (c : ℕ) → 0 < steps X c → X.front c ≡ Z.front c
    unfolding crossing_by given_by
    fronts c some =
        let l = step_below step_table zone_table front_table ahead c 0 some in
        fronts_are step_table zone_table lane c l (omega (arith, steps_is step_table zone_table front_table ahead c l))

    -- the tables permit the moves that the orders do
    pub stands_system : system X ≡ system Z
    unfolding crossing_by
    stands_system = system_same U'.routes X.front Z.front X.before Z.before fronts agree

    -- and give the same entering times
    stands_entering : (t : ℕ → ℕ → ℕ) (c s : ℕ) → s < steps X c → entering X G t c s ≡ entering Z G t c s
    unfolding crossing_by
    stands_entering = entering_orders U'.routes X.front Z.front X.before Z.before fronts agree G

    -- carts may be moved over the tables
    pub stands_sound : length step_table ≡ 16 → Sound X G
    unfolding crossing_by
    stands_sound few = record {
      once = once;
      only = λ z d c b.
          let (named, _) = and_both (is_named (route_of step_table zone_table c) z) _ b in
          let here = (named_says (route_of step_table zone_table c) z).0 named in
          let visit : Named (get_or U'.routes c []) z = rw (route_is step_table zone_table front_table ahead c (cart_below few c z here)) here in
          only z d c (sym (agree z d c visit) ∙ b);
      zone_below = λ c j h. omega (arith, stands.sheet_sized.able.zone_below c _ (j, h, refl), stands.sheet_sized.zones_most);
      ranged = ranges;
    }
      where
        cart_below : length step_table ≡ 16 → (c z : ℕ) → Named (route_of step_table zone_table c) z → c < 16
        cart_below few c z (j, h, _) =
            let counted = length_entries (get_or step_table c 0) 0 (λ k. get_or zone_table (8 * c + k) 0) in
            elim (dec_lt c 16) [ yes l ↦ l | no n ↦ absurd (omega (arith, get_or-eq_default step_table 0 {n = c} (omega arith))) ]

        ranges : Ranged X G
        ranges = let r = stands.sheet_sized.ranged in record {
          carts_most = r.carts_most;
          steps_most = r.steps_most;
          lane_most = r.lane_most;
          arrival_most = r.arrival_most;
          passing_most = r.passing_most;
          travel_most = r.travel_most;
          follow_most = r.follow_most;
          cross_most = r.cross_most;
        }

    module _ (at left enter order : List ℕ) (made : ℕ) (settled : SettlesAs X G at left enter order made) where
      -- whether the moves have no cycle is whether the carts settle out
      pub stands_out : (is_out Z ≡ true) ↔ (at ≡ (system Z).out)
      stands_out =
          let says = subst (λ (T : System). AllComeOut T (start T) ↔ (at ≡ T.out)) stands_system (settled_out X G at left enter order made settled) in
          (λ e. says.0 ((out_says Z).0 e), λ e. (out_says Z).1 (says.1 e))

      -- then the table has their entering times
      pub stands_times : is_out Z ≡ true → (c s : ℕ) → s < steps Z c → times_of enter c s ≡ entering_time Z G (moves_made Z) c s
      unfolding crossing_by
      stands_times e =
          let mine : EnteringTimes Z G (times_of enter) = λ c s h. settled_times X G at left enter order made settled (stands_out.0 e) c s h ∙
          stands_entering (times_of enter) c s h in
          times_unique Z G only (all_made Z e) (times_of enter) (entering_time Z G (moves_made Z)) mine (entering_made Z G only e)

  -- the same of the orders present while a group is solved
  module _ (low high : ℕ) (decided : List Order) (ahead behind undecided : List ℕ) (holds : Holds U' low high decided ahead behind undecided) where
    abbrev Y : Crossing
    Y = crossing_by step_table zone_table front_table ahead

    abbrev P : Crossing
    P = present U' low high decided

    only_present : OnlyVisitors P
    only_present = present_visitors U' low high decided

    stands_present : StandsFor U' P ahead
    stands_present = holds_stands U' low high decided ahead behind undecided holds

    pub present_system : system Y ≡ system P
    present_system = stands_system P.before only_present ahead stands_present

    pub present_sound : length step_table ≡ 16 → Sound Y G
    present_sound = stands_sound P.before only_present ahead stands_present

    module _ (at left enter order : List ℕ) (made : ℕ) (settled : SettlesAs Y G at left enter order made) where
      pub present_out : (is_out P ≡ true) ↔ (at ≡ (system P).out)
      present_out = stands_out P.before only_present ahead stands_present at left enter order made settled

      pub present_times : is_out P ≡ true → (c s : ℕ) → s < steps P c → times_of enter c s ≡ entering_time P G (moves_made P) c s
      present_times = stands_times P.before only_present ahead stands_present at left enter order made settled
