-- Under a readable plan, where record and cart pass their checks: the chain ends, and the tables tell it.
use Prim.Native.Nat.{ℕ, suc, ◌-◌, ◌<◌}
use mathlib.Core.Path.{◌≡◌, sym, ap, ◌∙◌}
use mathlib.Core.List.{List}
use native.Mathlib.Omega.{arith}
use lib.ListN.{length, get_or}
use lib.Dec.{eqb}
use borrow.Author.Tests.{ltb-true}
use Rattle.words.specs.Checks.{AllPass}
use Rattle.words.proofs.Entries.{length_entries, at_entry}
use Rattle.moves.specs.System.{System, pos}
use Rattle.moves.specs.Moves.{Permitted}
use Rattle.moves.specs.Rings.{follow}
use Rattle.moves.specs.Chains.{held_for, chain_of}
use Rattle.moves.specs.inner.Chains.{HeldBy}
use Rattle.moves.proofs.Chains.{held_by}
use Rattle.routes.specs.Crossing.{Crossing, steps, zone}
use Rattle.routes.specs.Moves.{system}
use Rattle.routes.specs.inner.Orders.{OnlyVisitors}
use Rattle.routes.specs.Plans.{points_to}
use Rattle.routes.proofs.Moves.{meetable}
use Rattle.routes.proofs.Plans.{plan_visitors}
use Rattle.routes.proofs.Pointing.{plan_points}
use Rattle.sheet.specs.Valid.{Valid}
use Rattle.sheet.specs.declared.Sheet.{Sheet}
use Rattle.plan.specs.Valid.{ValidOrders}
use Rattle.plan.specs.declared.Orders.{Orders}
use Rattle.crossing.specs.inner.Tables.{crossing_by, sheet_fronts, sheet_crossing}
use Rattle.crossing.specs.Plans.{routes_of, lists_of, plan_crossing}
use Rattle.crossing.proofs.Tables.{steps_is}
use Rattle.crossing.proofs.Plans.{plan_complete, plan_system_lem}
use Rattle.judge_one_move.specs.inner.Standing.{Standing}
use Rattle.judge_ring.specs.inner.Tables.{wanted_in, point_in}
use Rattle.judge_ring.proofs.Same.{follow_same}
use Rattle.judge.specs.Judging.{plan_system}
use Rattle.judge.proofs.Verdict.{plan_carts, accepts_out}
use Rattle.judge.proofs.Pointing.{wanted_is}
use Rattle.judge.proofs.Rings.{point_same, point_below}
use Rattle.moving_record.specs.declared.Record.{Record}
use Rattle.moving_asking.specs.Asking.{record_checks}
use Rattle.moving_asking.proofs.Request.{tested_cart}
use Rattle.moving_why.specs.Why.{chain_by, chain_from}
use Rattle.moving_why.specs.inner.Tables.{last_in}
use Rattle.moving_why.proofs.Same.{chain_same}

module _ (sheet : Sheet) (orders : Orders) (v : Valid sheet) (w : ValidOrders sheet orders) (lent : Record) (cart : ℕ)
    (passed : AllPass (record_checks sheet orders lent cart)) where
  abbrev at : List ℕ
  at = lent.position

  abbrev P : Crossing
  P = plan_crossing sheet orders

  abbrev S : System
  S = plan_system sheet orders

  abbrev to : ℕ → ℕ
  to = points_to P.front (routes_of sheet) (lists_of sheet orders) at

  only : OnlyVisitors P
  only = plan_visitors P.front (routes_of sheet) (lists_of sheet orders) (plan_complete sheet v orders w)

  pub chain_held : HeldBy S at cart (chain_of S at to cart)
  chain_held =
      held_by S (meetable P only) ((accepts_out sheet orders).0 passed.0) at to (plan_points P.front (routes_of sheet) (lists_of sheet orders) only at) cart
      (ltb-true (pos at cart) (pos S.out cart) passed.1.1.1.0)

  module _ (left : List ℕ) (standing : Standing (sheet_crossing sheet orders.ahead) at left) where
    abbrev X : Crossing
    X = sheet_crossing sheet orders.ahead

    abbrev point : ℕ → ℕ
    point = point_in sheet.steps sheet.zone (sheet_fronts sheet) orders.count orders.list at left

    few : cart < 16
    few = tested_cart sheet orders v w lent cart passed

    same_point : (c : ℕ) → c < 16 → point c ≡ to c
    same_point = point_same sheet v at orders w left standing.left_is

    below : (c : ℕ) → c < 16 → point c < 16
    below = point_below sheet v at orders w left standing.left_is

    -- pointing comes within 16 carts to one that may move
    pub free_within : (far : ℕ) × (far < 16) × Permitted (system X) at (follow point far cart)
    free_within =
        let n = held_for S at to cart in
        let long : length (chain_of S at to cart) ≡ suc n = length_entries (suc n) 0 (λ i. follow to i cart) in
        let is_last : length (chain_of S at to cart) - 1 ≡ n = omega (arith, long) in
        let link : get_or (chain_of S at to cart) n 0 ≡ follow to n cart = at_entry (suc n) (λ i. follow to i cart) n (omega arith) in
        let may : Permitted S at (follow to n cart) = rw (is_last, link) at chain_held.may_move in (
          n,
          omega (arith, long, chain_held.few, plan_carts sheet orders),
          rw (plan_system_lem sheet v orders w, (follow_same point to 16 same_point below n cart few).0) may,
        )

    last_same : (c : ℕ) → c < 16 → last_in sheet.steps at c ≡ eqb (pos at c) (steps P c)
    unfolding crossing_by
    last_same c l = ap (eqb (pos at c)) (sym (steps_is sheet.steps sheet.zone (sheet_fronts sheet) orders.ahead c l))

    pub chain_is : chain_by (system X) at point (wanted_in sheet.steps sheet.zone at) (last_in sheet.steps at) cart ≡ chain_from sheet orders lent cart
    unfolding chain_from
    chain_is =
        ap (λ (T : System). chain_by T at point (wanted_in sheet.steps sheet.zone at) (last_in sheet.steps at) cart) (plan_system_lem sheet v orders w)
        ∙ chain_same S at point to 16 same_point below cart few _ (λ d. zone P d (pos at d)) (λ d l. wanted_is sheet orders at d l)
        _ (λ d. eqb (pos at d) (steps P d)) last_same
