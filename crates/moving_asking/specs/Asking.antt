-- A request to move a cart: the cart's new position and the new count, or the first check that fails.
use Rattle.std.specs.Prelude.{ℕ, ◌+◌, List, [], ◌∷◌, ◌++◌, ltb, eqb}
use Rattle.words.specs.Lists.{pick}
use Rattle.words.specs.Checks.{Check, check, done, first_failing}
use Rattle.words.specs.declared.Outcome.{Outcome}
use Rattle.moves.specs.System.{pos}
use Rattle.moves.specs.Moves.{is_permitted}
use Rattle.sheet.specs.Reading.{sheet_of}
use Rattle.sheet.specs.declared.Sheet.{Sheet}
use Rattle.plan.specs.Reading.{reading_checks}
use Rattle.plan.specs.declared.Orders.{Orders}
use Rattle.crossing.specs.Plans.{routes_of, lists_of, plan_crossing}
use Rattle.judge_ring.specs.Ring.{is_not_out}
use Rattle.moving_record.specs.Record.{is_reached}
use Rattle.moving_record.specs.declared.Record.{Record}
use Rattle.judge.specs.Judging.{plan_system, is_out, orders_read}
use Rattle.moving_asking.specs.Ahead.{ahead_of}
use Rattle.moving_asking.specs.declared.Asked.{Asked}

-- the cart has made its next move
abbrev pub has_moved : Record → ℕ → Asked
has_moved lent cart = record { outcome = done; position = pos lent.position cart + 1; made = lent.made + 1; ahead = 0 }

module _ (sheet : Sheet) (orders : Orders) (lent : Record) (cart : ℕ) where
  -- of the record and the cart: "plan is locked", "no run of this plan reaches the lent record", "cart number m or more", "cart is already out"
  abbrev pub record_checks : List Check
  record_checks =
      let S = plan_system sheet orders in
      check 22 0 (is_out sheet orders)
      ∷ check 23 0 (is_reached S lent)
      ∷ check 24 0 (ltb cart sheet.carts)
      ∷ check 25 0 (is_not_out S lent.position cart)
      ∷ []

  -- and of its move: "cart is held"
  abbrev pub request_checks : List Check
  request_checks = record_checks ++ (check 26 0 (is_permitted (plan_system sheet orders) lent.position cart) ∷ [])

  -- "On refusal every other part of the answer is 0", but "26 also tells how many carts ahead have not left the wanted zone",
  -- and "adds one if the lane holds the cart"
  abbrev pub not_moved : Outcome → Asked
  not_moved outcome = record {
    outcome = outcome;
    position = 0;
    made = 0;
    ahead = pick (eqb outcome.number 26)
        (ahead_of (plan_crossing sheet orders).front (routes_of sheet) (lists_of sheet orders) lent.position cart) 0;
  }

module _ (s p : List ℕ) (lent : Record) (cart : ℕ) where
  -- "Moving has 1 to 26."
  abbrev pub moving_checks : List Check
  moving_checks = reading_checks s p ++ request_checks (sheet_of s) (orders_read s p) lent cart

  unfoldable pub ask : Asked
  ask = first_failing (not_moved (sheet_of s) (orders_read s p) lent cart) (has_moved lent cart) moving_checks
