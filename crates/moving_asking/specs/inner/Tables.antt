-- The carts ahead and not gone, and the lane's hold, over tables: at 8 * c + j stand the zone of step j of cart c and the set of the carts ahead of it.
use Rattle.std.specs.Prelude.{ℕ, ◌+◌, ◌*◌, ◌<◌, not, ◌&&◌, List, get_or}
use Rattle.words.specs.declared.Outcome.{Outcome}
use Rattle.sets.specs.inner.Member.{has}
use Rattle.sets.specs.Counting.{bit, count_below}
use Rattle.routes.specs.Crossing.{Crossing}
use Rattle.routes.specs.Lanes.{lane_holds}
use Rattle.moving_asking.specs.declared.Asked.{Asked}

abbrev pub no_move : Outcome → ℕ → Asked
no_move outcome ahead = record { outcome = outcome; position = 0; made = 0; ahead = ahead }

-- where the wanted step of cart c stands
abbrev pub wanted_at : List ℕ → ℕ → ℕ
wanted_at at c = 8 * c + get_or at c 0

-- cart c stands before a step, over one of 24 zones
pub record WantsZone (zone at : List ℕ) (c : ℕ) : Type 0 where
  pub cart : c < 16
  pub step : get_or at c 0 < 8
  pub known : get_or zone (wanted_at at c) 0 < 24

-- how many carts are ahead of the wanted step and have not left its zone
abbrev pub not_gone : List ℕ → List ℕ → List ℕ → List ℕ → ℕ → ℕ
not_gone zone ahead at left c =
    count_below 16 λ d. has (get_or ahead (wanted_at at c) 0) d && not (has (get_or left (get_or zone (wanted_at at c) 0) 0) d)

-- the same, and one more if the lane holds the cart
abbrev pub held_by : Crossing → List ℕ → List ℕ → List ℕ → List ℕ → ℕ → ℕ
held_by X zone ahead at left c = not_gone zone ahead at left c + bit (lane_holds X at c)
