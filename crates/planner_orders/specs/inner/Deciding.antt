-- One order more, or an order turned round: what that makes of the tables, whatever orders they hold.
use Rattle.std.specs.Prelude.{ℕ, ◌+◌, ◌*◌, ◌<◌, ◌≡◌, true, List, ◌∷◌}
use Rattle.routes.specs.Crossing.{steps, zone}
use Rattle.removal.specs.Pairs.{Unplanned, Order, opposite}
use Rattle.removal.specs.Present.{is_undecided}
use Rattle.planner_orders.specs.inner.Unplanned.{unordered}
use Rattle.planner_orders.specs.inner.Holds.{Holds}

-- the step of cart c in zone z stands at x
pub record StepAt (U : Unplanned) (z c x : ℕ) : Type 0 where
  pub step : ℕ
  pub is_step : step < steps (unordered U) c
  pub there : zone (unordered U) c step ≡ z
  pub at : x ≡ 8 * c + step

-- an order of an undecided pair, whose second cart's step stands at x and whose first cart's at y
pub record Candidate (U : Unplanned) (low high : ℕ) (decided : List Order) (o : Order) (x y : ℕ) : Type 0 where
  pub undecided : is_undecided U low high decided o.zone o.first o.second ≡ true
  pub second : StepAt U o.zone o.second x
  pub first : StepAt U o.zone o.first y

-- the new tables hold what the old ones do, and the order decided
pub record Decides (x y : ℕ) (ahead behind undecided ahead' behind' undecided' : List ℕ) : Type 0 where
  pub holds : (U : Unplanned) (low high : ℕ) (decided : List Order) (o : Order) → Candidate U low high decided o x y
      → Holds U low high decided ahead behind undecided → Holds U low high (o ∷ decided) ahead' behind' undecided'

-- the old tables hold the order decided last, the new ones its opposite instead
pub record TurnsRound (x y : ℕ) (ahead behind ahead' behind' : List ℕ) : Type 0 where
  pub holds : (U : Unplanned) (low high : ℕ) (decided : List Order) (o : Order) (undecided : List ℕ) → Candidate U low high decided o x y
      → Holds U low high (o ∷ decided) ahead behind undecided → Holds U low high (opposite o ∷ decided) ahead' behind' undecided
