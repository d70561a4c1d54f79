-- Entering times as solutions of the rule, and the ranges of a sheet's times.
use Rattle.std.specs.Prelude.{ℕ, ◌≤◌, ◌<◌, ◌≡◌, List, length}
use Rattle.words.specs.Limits.{most_time, latest_arrival}
use Rattle.moves.specs.System.{pos}
use Rattle.routes.specs.Crossing.{Crossing, steps}
use Rattle.times.specs.Times.{Given, entering}

module _ (X : Crossing) (G : Given) where
  -- t are the entering times
  abbrev pub EnteringTimes : (ℕ → ℕ → ℕ) → Type 0
  EnteringTimes t = (c s : ℕ) → s < steps X c → t c s ≡ entering X G t c s

  -- t has the entering times of the steps that are entered in state s: those worked out so far
  abbrev pub EnteredTimes : List ℕ → (ℕ → ℕ → ℕ) → Type 0
  EnteredTimes s t = (c p : ℕ) → p < pos s c → p < steps X c → t c p ≡ entering X G t c p

  -- the ranges of document 01's sheet
  pub record Ranged : Type 0 where
    pub carts_most : length X.routes ≤ 16
    pub steps_most : (c : ℕ) → steps X c ≤ 8
    pub lane_most : (c : ℕ) → G.lane c ≤ 15
    pub arrival_most : (c : ℕ) → G.arrival c ≤ latest_arrival
    pub passing_most : (c s : ℕ) → s < steps X c → G.passing c s ≤ most_time
    pub travel_most : (c s : ℕ) → s < steps X c → G.travel c s ≤ most_time
    pub follow_most : (z : ℕ) → G.follow z ≤ most_time
    pub cross_most : (z : ℕ) → G.cross z ≤ most_time
