-- `is_taken_over` is a strict order by levels, and of two orders with their costs one is taken over the other unless they are the same.
use mathlib.Core.Path.{◌≡◌}
use mathlib.Core.Bool.{true, false, not-eq-not}
use lib.Signed.{lt_z}
use Rattle.removal.specs.Pairs.{Unplanned, Order, rank}
use Rattle.removal.specs.Cost.{Costed, is_taken_over}
use Rattle.removal.proofs.Ranks.{rank_injective}
use Rattle.planner_costs.specs.inner.Largest.{OfCarts}
use Rattle.planner_costs.proofs.Strict.{Strict, clash, level_tied, levelled, by_value, turned, ltb_strict, lt_z_strict, ltb_tied}

pub same_order : (o p : Order) → o.zone ≡ p.zone → o.first ≡ p.first → o.second ≡ p.second → o ≡ p
same_order o p zone first second = λ i. record { zone = zone i; first = first i; second = second i }

module _ (U : Unplanned) where
  pub taken_strict : Strict (is_taken_over U)
  unfolding is_taken_over
  taken_strict =
      levelled (by_value (λ x. x.cost) (turned lt_z_strict))
      (levelled (by_value (λ x. x.order.zone) ltb_strict)
      (levelled (by_value (λ x. rank U x.order.first) ltb_strict)
      (by_value (λ x. rank U x.order.second) ltb_strict)))

  pub taken_asym : (x y : Costed) → is_taken_over U x y ≡ true → is_taken_over U y x ≡ false
  taken_asym x y p = (not-eq-not {b = false}).0 (λ q. clash (taken_strict.trans x y x p q) (taken_strict.irrefl x))

  pub taken_total : (x y : Costed) → OfCarts U x.order → OfCarts U y.order
      → is_taken_over U x y ≡ false → is_taken_over U y x ≡ false → x.order ≡ y.order
  unfolding is_taken_over
  taken_total x y (a, b) (c, d) p q =
      let costs = level_tied (lt_z y.cost x.cost) (lt_z x.cost y.cost) _ _ p q in
      let zones = level_tied _ _ _ _ costs.2 costs.3 in
      let firsts = level_tied _ _ _ _ zones.2 zones.3 in
      same_order x.order y.order (ltb_tied _ _ zones.0 zones.1)
      (rank_injective U _ _ a c (ltb_tied _ _ firsts.0 firsts.1))
      (rank_injective U _ _ b d (ltb_tied _ _ firsts.2 firsts.3))
