-- Pointing as tables tell it: positions, who is in front on the lanes, zones' lists, and for each zone the set of the carts that have left it.
use Rattle.std.specs.Prelude.{ℕ, ◌+◌, ◌*◌, ◌-◌, ◌≤◌, ◌<◌, not, List, [], get_or, ltb, Option, Some, None}
use Rattle.words.specs.Lists.{pick, entries}
use Rattle.sets.specs.inner.Member.{has}
use Rattle.routes.specs.Lists.{first_of}
use Rattle.routes.specs.Lanes.{lane_holds}
use Rattle.routes.specs.Moves.{moves_of}
use Rattle.sheet_table.specs.inner.Parts as parts
use Rattle.crossing.specs.inner.Tables.{fronts_of, crossing_by}
use Rattle.sheet_table.specs.declared.Table.{Table}

-- the zone that cart c wants at its position; 0 where it wants none
abbrev pub wanted_in : List ℕ → List ℕ → List ℕ → ℕ → ℕ
wanted_in steps zone at c = pick (ltb (get_or at c 0) (get_or steps c 0)) (get_or zone (8 * c + get_or at c 0) 0) 0

pub record Wanting (steps zone at : List ℕ) : Type 0 where
  pub steps_most : (c : ℕ) → c < 16 → get_or steps c 0 ≤ 8
  pub zone_below : (c : ℕ) → c < 16 → wanted_in steps zone at c < 24

-- zone z's list, of at most 16 carts
abbrev pub list_in : List ℕ → List ℕ → ℕ → List ℕ
list_in count list z = entries (get_or count z 0) 0 λ k. get_or list (16 * z + k) 0

pub record Listable (count list : List ℕ) (z : ℕ) : Type 0 where
  pub few : get_or count z 0 ≤ 16
  pub cart : (k : ℕ) → k < get_or count z 0 → get_or list (16 * z + k) 0 < 16

abbrev pub AllListable : List ℕ → List ℕ → Type 0
AllListable count list = (z : ℕ) → z < 24 → Listable count list z

-- "the first cart in that zone's list which hasn't left it"
abbrev pub first_not_left : List ℕ → List ℕ → List ℕ → ℕ → ℕ
first_not_left count list left z = first_of (λ d. not (has (get_or left z 0) d)) (list_in count list z)

-- the cart that cart c points to: "a cart held by the lane points to that front cart before any cart in the zone list";
-- no order in a zone bears on what the lane holds
abbrev pub point_in : List ℕ → List ℕ → List ℕ → List ℕ → List ℕ → List ℕ → List ℕ → ℕ → ℕ
point_in steps zone front count list at left c =
    pick (lane_holds (crossing_by steps zone front []) at c) (get_or front c 0 - 1) (first_not_left count list left (wanted_in steps zone at c))

-- the same of a sheet's table
abbrev pub point_of : Table → List ℕ → List ℕ → List ℕ → List ℕ → ℕ → ℕ
point_of sheet = point_in (parts.steps sheet) (parts.zone sheet) (fronts_of sheet)

-- what pointing asks of the tables
pub record Pointable (sheet : Table) (count list at : List ℕ) : Type 0 where
  pub wanting : Wanting (parts.steps sheet) (parts.zone sheet) at
  pub listable : AllListable count list

-- a table of 16 carts, each with the cart that it points to
abbrev pub by_table : List ℕ → ℕ → ℕ
by_table to c = get_or to c 0

abbrev pub ByTable : List ℕ → Type 0
ByTable to = (c : ℕ) → by_table to c < 16

-- cart c is not out
abbrev pub NotOutIn : List ℕ → List ℕ → ℕ → Type 0
NotOutIn steps at c = get_or at c 0 < moves_of (get_or steps c 0)

-- the lowest of 16 carts that is not out; none where all are
abbrev pub StuckIn : List ℕ → List ℕ → Option ℕ → Type 0
StuckIn steps at None = (d : ℕ) → d < 16 → ¬ (NotOutIn steps at d)
StuckIn steps at (Some c) = (c < 16) × NotOutIn steps at c × ((d : ℕ) → d < c → ¬ (NotOutIn steps at d))
