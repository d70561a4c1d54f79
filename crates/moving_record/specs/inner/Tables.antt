-- The test of a record over tables: by the set of the carts ahead of each step, the set of the carts that have left each zone,
-- and who is next in front of each cart on its lane.
use Rattle.std.specs.Prelude.{ℕ, ◌+◌, ◌-◌, ◌*◌, ◌≤◌, ◌<◌, min, ◌≡◌, List, length, get_or, Option, is_some, IfSome}
use Rattle.words.specs.Lists.{entries}
use Rattle.sets.specs.inner.Member.{Within}
use Rattle.routes.specs.Crossing.{Crossing, steps, zone}
use Rattle.routes.specs.Moves.{moves_of, system}
use Rattle.routes.specs.inner.Orders.{NamesOnce, OnlyVisitors}
use Rattle.crossing.specs.inner.Tables.{fronts_by, crossing_by, FrontGone, LeftSet}
use Rattle.moving_record.specs.Record.{is_reached}
use Rattle.moving_record.specs.declared.Record.{Record}

-- no cart stands past out
abbrev pub NonePastOut : List ℕ → List ℕ → Type 0
NonePastOut steps at = (c : ℕ) → c < 16 → get_or at c 0 ≤ moves_of (get_or steps c 0)

-- how many zones each cart has left
abbrev pub zones_left : List ℕ → List ℕ
zones_left at = entries 16 0 λ c. get_or at c 0 - 1

-- the first k steps of cart c are over 24 zones
pub record InZones (zone : List ℕ) (c k : ℕ) : Type 0 where
  pub cart : c < 16
  pub few : k ≤ 8
  pub known : (j : ℕ) → j < k → get_or zone (8 * c + j) 0 < 24

module _ (zone ahead left : List ℕ) where
  -- all carts ahead of each of the first k steps of cart c have left the step's zone
  abbrev pub InTurn : ℕ → ℕ → Type 0
  InTurn c k = (j : ℕ) → j < k → Within (get_or ahead (8 * c + j) 0) (get_or left (get_or zone (8 * c + j) 0) 0)

-- the same of every step that a cart has entered
abbrev pub AllInTurn : List ℕ → List ℕ → List ℕ → List ℕ → List ℕ → Type 0
AllInTurn steps zone ahead at left = (c : ℕ) → c < 16 → InTurn zone ahead left c (min (get_or at c 0) (get_or steps c 0))

-- by the table's entries, whoever is in front is one of 16 carts
abbrev pub FrontsKnown : (ℕ → ℕ) → Type 0
FrontsKnown front = (c : ℕ) → c < 16 → front c ≤ 16

-- no cart has made its first move before the cart in front of it on its lane has
abbrev pub AllInLine : (ℕ → ℕ) → List ℕ → Type 0
AllInLine front at = (c : ℕ) → c < 16 → 0 < get_or at c 0 → FrontGone (front c) at

module _ (step_table zone_table lane_table ahead_table : List ℕ) where
  abbrev X : Crossing
  X = crossing_by step_table zone_table (fronts_by step_table zone_table lane_table) ahead_table

  -- what the test asks of tables
  pub record Orderly : Type 0 where
    pub steps_16 : length step_table ≡ 16
    pub once : NamesOnce X
    pub only : OnlyVisitors X
    pub zone_below : (c j : ℕ) → j < steps X c → zone X c j < 24
    pub steps_most : (c : ℕ) → steps X c ≤ 8

-- some exactly if a run reaches the record, and then for each zone the carts that have left it
pub record TestedAs (X : Crossing) (lent : Record) (tested : Option (List ℕ)) : Type 0 where
  pub reached_is : is_some tested ≡ is_reached (system X) lent
  pub left_is : IfSome tested (λ left. (z : ℕ) → LeftSet X lent.position z (get_or left z 0))
