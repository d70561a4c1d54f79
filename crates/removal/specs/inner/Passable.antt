-- Orders that a plan can be written from: of visitors only, strict in each zone, by number on a lane, and by them all carts come out.
use Rattle.std.specs.Prelude.{ℕ, ◌<◌, ◌≡◌, true, [], get_or}
use Rattle.routes.specs.inner.Lists.{Named}
use Rattle.routes.specs.Crossing.{Crossing}
use Rattle.routes.specs.inner.Orders.{StrictOrder}
use Rattle.times.specs.Running.{is_out}
use Rattle.removal.specs.Pairs.{Unplanned, front_in}

pub record Passable (U : Unplanned) (X : Crossing) : Type 0 where
  pub routed : X.routes ≡ U.routes
  pub fronted : X.front ≡ front_in U
  pub both : (z d c : ℕ) → X.before z d c ≡ true → Named (get_or U.routes d []) z × Named (get_or U.routes c []) z
  pub strict : (z : ℕ) → StrictOrder (λ c. Named (get_or U.routes c []) z) (X.before z)
  -- no cart has a "higher-numbered one of its lane ahead"
  pub in_lane : (z d c : ℕ) → X.before z d c ≡ true → U.given.lane d ≡ U.given.lane c → d < c
  pub comes_out : is_out X ≡ true
