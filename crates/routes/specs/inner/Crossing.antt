-- How many steps and carts a crossing has, and whose route names a zone.
use Rattle.std.specs.Prelude.{ℕ, min, map, length}
use Rattle.moves.specs.System.{sum}
use Rattle.routes.specs.inner.Lists.{Named}
use Rattle.routes.specs.Crossing.{Crossing, route}

module _ (X : Crossing) where
  -- the steps of all routes, and the carts that have one
  abbrev pub all_steps : ℕ
  all_steps = sum (map length X.routes)

  abbrev pub present_carts : ℕ
  present_carts = sum (map (λ route. min 1 (length route)) X.routes)

  -- the route of cart c names zone z
  abbrev pub Visits : ℕ → ℕ → Type 0
  Visits c z = Named (route X c) z
