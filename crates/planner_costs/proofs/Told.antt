-- What the tables hold for a candidate is what U's costs and ranks are made of.
use Prim.Native.Nat.{ℕ, ◌+◌, ◌*◌, ◌/◌, ◌%◌, ◌<◌}
use mathlib.Core.Path.{◌≡◌, sym, ap, ◌∙◌}
use mathlib.Core.Bool.{true}
use native.Mathlib.Omega.{arith}
use lib.ListN.{length, get_or}
use lib.IntN.{ℤ, pos, neg_ℤ, ◌+ℤ◌, ◌-ℤ◌, +ℤ_assoc, neg_ℤ-+ℤ}
use borrow.Author.Tests.{ne_eqb}
use Rattle.std.specs.Prelude.{Some}
use Rattle.sets.specs.inner.Member.{has}
use Rattle.routes.specs.Lists.{place_of}
use Rattle.routes.proofs.Places.{place_below, place_names, place_is}
use Rattle.judge_entering.specs.Times.{times_of}
use Rattle.removal.specs.Pairs.{Unplanned}
use Rattle.removal.specs.Cost.{is_taken_over, cost}
use Rattle.removal.proofs.Pairs.{Visiting, pair_says}
use Rattle.planner_costs.specs.inner.Largest.{OfCarts}
use Rattle.planner_costs.specs.inner.Tables.{Tables, wins_tie, order_at, route, Tabled, Costable}
use Rattle.planner_costs.specs.inner.Choices.{is_taken_at, chosen}
use Rattle.planner_costs.specs.declared.Choice.{Choice}

-- to take two numbers away is to take their sum away
less_both : (m b s : ℕ) → pos m -ℤ pos b -ℤ pos s ≡ pos m -ℤ pos (b + s)
less_both m b s = +ℤ_assoc (pos m) (neg_ℤ (pos b)) (neg_ℤ (pos s)) ∙ ap (λ z. pos m +ℤ z) (sym (neg_ℤ-+ℤ (pos b) (pos s)))

module _ (T : Tables) where
  -- "A's entering + passing + gap" of cart a before the cart of the step at x, and B's entering and spare time
  abbrev pub clear_at : ℕ → ℕ → ℕ
  clear_at x a =
      let z = get_or T.zone x 0 in
      let p = get_or T.visit (16 * z + a) 0 in
      get_or T.enter p 0 + get_or T.passing p 0 + get_or T.cross z 0

  abbrev pub latest_at : ℕ → ℕ
  latest_at x = get_or T.enter x 0 + get_or T.spare x 0

module _ (U : Unplanned) (T : Tables) (K : Costable U T) (x a : ℕ) (below : x < 128) (is : has (get_or T.undecided x 0) a ≡ true) where
  abbrev b : ℕ
  b = x / 8

  abbrev j : ℕ
  j = x % 8

  abbrev z : ℕ
  z = get_or T.zone x 0

  abbrev i : ℕ
  i = place_of (route U a) z

  place : 8 * b + j ≡ x
  place = omega arith

  pair : (Visiting U a z × Visiting U b z) × ¬ (U.given.lane a ≡ U.given.lane b)
  pair = (pair_says U z a b).0 (K.are_pairs x a below is)

  first_below : i < length (route U a)
  first_below = place_below (route U a) z pair.0.0

  first_at : get_or T.visit (16 * z + a) 0 ≡ 8 * a + i
  first_at = rw (place_names (route U a) z pair.0.0) at (K.tabled.visit_is a i first_below)

  second_below : j < length (route U b)
  second_below = K.is_step x a below is

  second_zone : get_or (route U b) j 0 ≡ z
  second_zone = sym (rw place at (K.tabled.zone_is b j second_below))

  zone_below : z < U.zones
  zone_below = rw second_zone at (K.tabled.zone_below b j second_below)

  second_at : place_of (route U b) z ≡ j
  second_at = place_is (route U b) z (K.tabled.once b) j second_below second_zone

  pub told_carts : OfCarts U (order_at T x a)
  told_carts = (K.tabled.present a i first_below, K.tabled.present b j second_below)

  pub told_cost : cost U (times_of T.enter) (times_of T.spare) (order_at T x a) ≡ pos (clear_at T x a) -ℤ pos (latest_at T x)
  unfolding cost
  told_cost =
      rw (ne_eqb _ _ pair.1, second_at, place, first_at, K.tabled.passing_is a i first_below, K.tabled.cross_is z zone_below)
      (less_both _ (get_or T.enter x 0) (get_or T.spare x 0))

-- whether one candidate is taken over another
pub told_taken : (U : Unplanned) (T : Tables) → Tabled U T.zone T.cross T.passing T.rank T.visit → (x a : ℕ) (v : ℤ) (r : Choice)
    → OfCarts U (order_at T x a) → OfCarts U (order_at T r.step r.first)
    → is_taken_at T.zone T.rank x a v (Some r) ≡ is_taken_over U (record { order = order_at T x a; cost = v }) (chosen T r)
unfolding wins_tie is_taken_over
told_taken U T K x a v r (f, s) (g, t) = rw (K.rank_is a f, K.rank_is (x / 8) s, K.rank_is r.first g, K.rank_is (r.step / 8) t)
