-- "Given sheet, plan, record and cart, answer the chain: this cart wants zone Z (or the move out), held by that cart, which wants the next, down to a
-- cart that may move now."
use Rattle.std.specs.Prelude.{ℕ, Bool, List, ◌++◌, map, length, replicate, eqb}
use Rattle.words.specs.Checks.{Check, done, first_failing}
use Rattle.words.specs.declared.Outcome.{Outcome}
use Rattle.sets.specs.Counting.{bit}
use Rattle.moves.specs.System.{System, pos}
use Rattle.moves.specs.Rings.{follow}
use Rattle.moves.specs.Chains.{held_for, chain_of}
use Rattle.routes.specs.Crossing.{steps, zone}
use Rattle.routes.specs.Plans.{points_to}
use Rattle.sheet.specs.Reading.{sheet_of}
use Rattle.sheet.specs.declared.Sheet.{Sheet}
use Rattle.plan.specs.Reading.{reading_checks}
use Rattle.plan.specs.declared.Orders.{Orders}
use Rattle.crossing.specs.Plans.{routes_of, lists_of, plan_crossing}
use Rattle.judge_ring.specs.Ring.{sixteen}
use Rattle.judge.specs.Judging.{plan_system, orders_read}
use Rattle.moving_record.specs.declared.Record.{Record}
use Rattle.moving_asking.specs.Asking.{record_checks}
use Rattle.moving_why.specs.declared.Chain.{Chain}

-- "On refusal every other part of the answer is 0"
abbrev pub chain_refused : Outcome → Chain
chain_refused outcome = record { outcome = outcome; length = 0; cart = replicate 16 0; zone = replicate 16 0; out = 0 }

-- the chain from cart c by a rule of pointing, each cart with its wanted zone, and whether the last wants the move out
abbrev pub chain_by : System → List ℕ → (ℕ → ℕ) → (ℕ → ℕ) → (ℕ → Bool) → ℕ → Chain
chain_by S s to wanted wants_out c =
    let chain = chain_of S s to c in
    record {
      outcome = done;
      length = length chain;
      cart = sixteen chain;
      zone = sixteen (map wanted chain);
      out = bit (wants_out (follow to (held_for S s to c) c));
    }

module _ (sheet : Sheet) (orders : Orders) (lent : Record) (cart : ℕ) where
  -- "Each link follows the ring's pointing rule in the lent record, lane included". A cart in the last zone of its route wants the move out, and zone 0
  unfoldable pub chain_from : Chain
  chain_from =
      let X = plan_crossing sheet orders in
      let at = lent.position in
      chain_by (plan_system sheet orders) at (points_to X.front (routes_of sheet) (lists_of sheet orders) at) (λ d. zone X d (pos at d))
      (λ d. eqb (pos at d) (steps X d)) cart

module _ (s p : List ℕ) (lent : Record) (cart : ℕ) where
  -- "Refusals: as for moving up to 25"
  abbrev pub why_checks : List Check
  why_checks = reading_checks s p ++ record_checks (sheet_of s) (orders_read s p) lent cart

  unfoldable pub why : Chain
  why = first_failing chain_refused (chain_from (sheet_of s) (orders_read s p) lent cart) why_checks
