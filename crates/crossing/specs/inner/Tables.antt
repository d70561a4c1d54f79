-- The crossing that tables stand for. Step j of cart c stands at 8 * c + j, where `ahead` holds the set of the carts ahead of it.
use Rattle.std.specs.Prelude.{ℕ, suc, ◌+◌, ◌*◌, ◌<◌, ◌≡◌, ◌↔◌, true, ◌&&◌, List, get_or, ltb}
use Rattle.words.specs.Lists.{pick, entries}
use Rattle.sets.specs.inner.Member.{has}
use Rattle.moves.specs.System.{pos}
use Rattle.routes.specs.Lists.{is_named, place_of}
use Rattle.routes.specs.Crossing.{Crossing, HasLeft}
use Rattle.routes.specs.Lanes.{next_in_front}
use Rattle.times.specs.Times.{Given}
use Rattle.sheet_table.specs.inner.Parts as parts
use Rattle.sheet.specs.declared.Sheet.{Sheet}
use Rattle.crossing.specs.Plans.{route_of, given_by}
use Rattle.sheet_table.specs.declared.Table.{Table}

-- for each of 16 carts one more than the cart next in front of it on its lane; 0 where there is none, and for an absent cart
unfoldable pub fronts_by : List ℕ → List ℕ → List ℕ → List ℕ
fronts_by steps zone lane =
    entries 16 0 λ c. pick (ltb 0 (get_or steps c 0)) (next_in_front (λ c. get_or lane c 0) (entries 16 0 (route_of steps zone)) c) 0

-- the routes of 16 carts, and who is in front of each; cart d goes before cart c in a zone where it is in the set ahead of c's step there
unfoldable pub crossing_by : List ℕ → List ℕ → List ℕ → List ℕ → Crossing
crossing_by steps zone front ahead = record {
  routes = entries 16 0 (route_of steps zone);
  front = λ c. get_or front c 0;
  before = λ z d c. is_named (route_of steps zone c) z && has (get_or ahead (8 * c + place_of (route_of steps zone c) z) 0) d;
}

-- the same of a sheet's table
abbrev pub fronts_of : Table → List ℕ
fronts_of sheet = fronts_by (parts.steps sheet) (parts.zone sheet) (parts.lane sheet)

abbrev pub crossing_of : Table → List ℕ → Crossing
crossing_of sheet ahead = crossing_by (parts.steps sheet) (parts.zone sheet) (fronts_of sheet) ahead

abbrev pub given_of : Table → Given
given_of sheet =
    given_by (parts.lane sheet) (parts.arrival sheet) (parts.passing sheet) (parts.travel sheet) (parts.follow sheet) (parts.cross sheet)

-- and of a sheet
abbrev pub sheet_fronts : Sheet → List ℕ
sheet_fronts sheet = fronts_by sheet.steps sheet.zone sheet.lane

abbrev pub sheet_crossing : Sheet → List ℕ → Crossing
sheet_crossing sheet ahead = crossing_by sheet.steps sheet.zone (sheet_fronts sheet) ahead

-- in state s the cart in front, by a table's entry f, has made its first move, or there is none
abbrev pub FrontGone : ℕ → List ℕ → Type 0
FrontGone f s = (d : ℕ) → f ≡ suc d → 0 < pos s d

-- `left` is the set of the carts that have left zone z in state s
abbrev pub LeftSet : Crossing → List ℕ → ℕ → ℕ → Type 0
LeftSet X s z left = (d : ℕ) → (has left d ≡ true) ↔ HasLeft X s d z
