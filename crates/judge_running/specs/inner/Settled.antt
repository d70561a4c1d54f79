-- "Make permitted moves until none is left; the state reached doesn't depend on the order."
use Rattle.std.specs.Prelude.{ℕ, ◌≤◌, ◌<◌, ◌≡◌, List, length, get_or, take}
use Rattle.words.specs.inner.Limits.{latest_entering}
use Rattle.moves.specs.System.{pos, start, sum}
use Rattle.moves.specs.Runs.{after, Run, end}
use Rattle.routes.specs.Crossing.{Crossing, steps}
use Rattle.routes.specs.Moves.{system}
use Rattle.times.specs.Times.{Given}
use Rattle.times.specs.inner.Times.{EnteredTimes}
use Rattle.crossing.specs.inner.Tables.{LeftSet}
use Rattle.judge_entering.specs.Times.{times_of}
use Rattle.judge_entering.specs.inner.Times.{AtMost}

-- no move is left: where the carts stand, for each zone the carts that have left it, the entering times of the steps entered, 0 for the others,
-- how many moves they made, and the run itself: the first `made` entries of `order` are the carts that made them, first to last
pub record SettlesAs (X : Crossing) (G : Given) (at left enter order : List ℕ) (made : ℕ) : Type 0 where
  pub is_end : at ≡ end (system X) (start (system X))
  pub left_24 : length left ≡ 24
  pub left_is : (z : ℕ) → LeftSet X at z (get_or left z 0)
  pub counted : made ≡ sum at
  pub enter_128 : length enter ≡ 128
  pub enter_is : EnteredTimes X G at (times_of enter)
  pub enter_most : AtMost latest_entering enter
  pub not_entered : (c p : ℕ) → p < 8 → ¬ ((p < pos at c) × (p < steps X c)) → times_of enter c p ≡ 0
  pub few : made ≤ 144
  pub order_144 : length order ≡ 144
  pub is_run : Run (system X) (start (system X)) (take made order)
  pub run_ends : after (start (system X)) (take made order) ≡ at
