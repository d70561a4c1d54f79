-- One order of an undecided pair more: it is present, and its pair is decided.
use Prim.Native.Nat.{ℕ}
use mathlib.Core.Path.{◌≡◌, refl, sym, ap, ◌∙◌}
use mathlib.Core.Bool.{Bool, true, false, false≢true, not, ◌&&◌, ◌||◌, or-true, or-false, or_comm, and_comm, and-true, and-false}
use mathlib.Core.List.{List, ◌∷◌}
use lib.Dec.{eqb}
use borrow.Author.Tests.{eqb-true}
use Rattle.words.proofs.Tests.{and_both, eqb_turned}
use Rattle.removal.specs.Pairs.{Unplanned, Order, opposite, is_decided, rank, is_pair, visits}
use Rattle.removal.specs.Present.{in_group, pair_order, goes_before, is_undecided}
use Rattle.removal.specs.Pairs.{PairIn}
use Rattle.removal.proofs.Present.{pair_inside, pair_of, before_pair}
use Rattle.removal.proofs.Candidates.{undecided_says}
use Rattle.planner_orders.proofs.Ranks.{goes_more}

-- whether o is the order of cart d before cart c in zone z
abbrev pub is_order : Order → ℕ → ℕ → ℕ → Bool
is_order o z d c = eqb o.zone z && eqb o.first d && eqb o.second c

order_is : (o : Order) (z d c : ℕ) → is_order o z d c ≡ true → (o.zone ≡ z) × (o.first ≡ d) × (o.second ≡ c)
order_is o z d c e =
    let (both, second) = and_both (eqb o.zone z && eqb o.first d) (eqb o.second c) e in
    let (zone, first) = and_both (eqb o.zone z) (eqb o.first d) both in
    (eqb-true o.zone z zone, eqb-true o.first d first, eqb-true o.second c second)

pub and_swap : (a b c : Bool) → (a && b && c) ≡ (a && c && b)
and_swap true b c = and_comm b c
and_swap false b c = refl

pub order_turned : (o : Order) (z d c : ℕ) → is_order (opposite o) z d c ≡ is_order o z c d
order_turned o z d c = and_swap (eqb o.zone z) (eqb o.second d) (eqb o.first c)

undecided_by : (p x a y b : Bool) → (p && not ((x || a) || (y || b))) ≡ ((p && not (a || b)) && not (x || y))
undecided_by false x a y b = refl
undecided_by true true a y b = sym (and-false (not (a || b)))
undecided_by true false true y b = refl
undecided_by true false false true b = sym (and-false (not b))
undecided_by true false false false b = sym (and-true (not b))

pub pair_turned : (U : Unplanned) (z d c : ℕ) → is_pair U z d c ≡ is_pair U z c d
unfolding is_pair
pair_turned U z d c = rw (and_comm (visits U d z) (visits U c z), eqb_turned (U.given.lane d) (U.given.lane c))

module _ (U : Unplanned) (low high : ℕ) (decided : List Order) where
  -- a pair is undecided whichever cart is named first
  pub undecided_turned : (z d c : ℕ) → is_undecided U low high decided z d c ≡ is_undecided U low high decided z c d
  unfolding is_undecided
  undecided_turned z d c = rw (
    pair_turned U z d c,
    and_comm (in_group low high (rank U d)) (in_group low high (rank U c)),
    or_comm (is_decided decided z d c) (is_decided decided z c d),
  )

  -- and neither goes before the other
  undecided_absent : (z d c : ℕ) → is_undecided U low high decided z d c ≡ true → goes_before U low high decided z d c ≡ false
  undecided_absent z d c e =
      let u = (undecided_says U low high decided z d c).0 e in
      before_pair U low high decided z d c u.is_in_lem.pair
      ∙ pair_inside low high (rank U d) (rank U c) (is_decided decided z d c) (is_decided decided z c d) u.is_in_lem.ranks
      ∙ u.not_this

module _ (U : Unplanned) (low high : ℕ) (decided : List Order) (o : Order) where
  pub undecided_added : (z d c : ℕ) → is_undecided U low high (o ∷ decided) z d c ≡
      (is_undecided U low high decided z d c && not (is_order o z d c || is_order o z c d))
  unfolding is_undecided is_decided
  undecided_added z d c =
      undecided_by (is_pair U z d c && (in_group low high (rank U d) && in_group low high (rank U c)))
      (is_order o z d c) (is_decided decided z d c) (is_order o z c d) (is_decided decided z c d)

  module _ (undecided : is_undecided U low high decided o.zone o.first o.second ≡ true) where
    candidate : PairIn U low high o.zone o.first o.second
    candidate = ((undecided_says U low high decided o.zone o.first o.second).0 undecided).is_in_lem

    order_in : (z d c : ℕ) → is_order o z d c ≡ true → PairIn U low high z d c
    order_in z d c e = let (zone, first, second) = order_is o z d c e in rw (zone, first, second) at candidate

    pub order_absent : (z d c : ℕ) → is_order o z d c ≡ true → goes_before U low high decided z d c ≡ false
    order_absent z d c e =
        let (zone, first, second) = order_is o z d c e in
        rw (zone, first, second) at (undecided_absent U low high decided o.zone o.first o.second undecided)

    added_pair : (z d c : ℕ) → pair_of U low high (o ∷ decided) z d c ≡ (pair_of U low high decided z d c || is_order o z d c)
    unfolding is_decided
    added_pair z d c = go (is_order o z d c) (is_order o z c d) refl refl
      where
        here : (x y : Bool) → Bool
        here x y = pair_order low high (rank U d) (rank U c) (x || is_decided decided z d c) (y || is_decided decided z c d)

        go : (x y : Bool) → is_order o z d c ≡ x → is_order o z c d ≡ y → here x y ≡ (pair_of U low high decided z d c || x)
        go true y e f = pair_inside low high (rank U d) (rank U c) true (y || is_decided decided z c d) (order_in z d c e).ranks ∙ sym
            (or-true (pair_of U low high decided z d c))
        go false true e f =
            let (first, second) = (order_in z c d f).ranks in
            pair_inside low high (rank U d) (rank U c) (is_decided decided z d c) true (second, first)
            ∙ sym (pair_inside low high (rank U d) (rank U c) (is_decided decided z d c) (is_decided decided z c d) (second, first))
            ∙ sym (or-false (pair_of U low high decided z d c))
        go false false e f = sym (or-false (pair_of U low high decided z d c))

    pub order_added : (z d c : ℕ) → goes_before U low high (o ∷ decided) z d c ≡ (goes_before U low high decided z d c || is_order o z d c)
    order_added z d c =
        goes_more U z d c low high low high (o ∷ decided) decided (is_order o z d c) (λ _. added_pair z d c)
        ∙ ap (λ (b : Bool). goes_before U low high decided z d c || b) (implied (is_pair U z d c) (is_order o z d c) (λ e. (order_in z d c e).pair))
      where
        implied : (p x : Bool) → (x ≡ true → p ≡ true) → (p && x) ≡ x
        implied true x h = refl
        implied false true h = absurd (false≢true (h refl))
        implied false false h = refl
