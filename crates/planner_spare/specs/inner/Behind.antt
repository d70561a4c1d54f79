-- The crossing that a sheet's table and sets of carts behind stand for. Step j of cart c stands at 8 * c + j, where `behind` holds the set of the
-- carts behind it.
use Rattle.std.specs.Prelude.{ℕ, ◌+◌, ◌*◌, ◌&&◌, List, get_or}
use Rattle.words.specs.Lists.{entries}
use Rattle.sets.specs.inner.Member.{has}
use Rattle.routes.specs.Lists.{is_named, place_of}
use Rattle.routes.specs.Crossing.{Crossing}
use Rattle.sheet_table.specs.inner.Parts.{steps, zone}
use Rattle.crossing.specs.Plans.{route_of}
use Rattle.crossing.specs.inner.Tables.{fronts_of}
use Rattle.sheet_table.specs.declared.Table.{Table}

-- the routes of 16 carts, and who is in front of each; cart c goes before cart d in a zone where d is in the set behind c's step there
unfoldable pub crossing_behind : Table → List ℕ → Crossing
crossing_behind sheet behind = record {
  routes = entries 16 0 (route_of (steps sheet) (zone sheet));
  front = λ c. get_or (fronts_of sheet) c 0;
  before = λ z c d.
      let route = route_of (steps sheet) (zone sheet) c in
      is_named route z && has (get_or behind (8 * c + place_of route z) 0) d;
}
