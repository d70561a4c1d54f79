-- Moves by where the carts stand and who has left each zone, and no times: one cart's, as far as it may go, and a turn of the carts that are not out.
use Rattle.std.specs.Prelude.{ℕ, ◌<◌, ◌≡◌, List, length, Option, Some, None}
use Rattle.moves.specs.System.{pos, sum}
use Rattle.moves.specs.Moves.{Permitted}
use Rattle.moves.specs.inner.Runs.{Stuck}
use Rattle.moves.specs.inner.Records.{Reached}
use Rattle.routes.specs.Crossing.{Crossing, steps}
use Rattle.routes.specs.Moves.{system}
use Rattle.judge_one_move.specs.inner.Standing.{Standing}
use Rattle.judge_running.specs.inner.Rounds.{InsideSet}

module _ (X : Crossing) where
  -- the carts stand at `at` after permitted moves, and `left` has for each zone the carts that have left it
  pub record HaveMoved (at left : List ℕ) : Type 0 where
    pub standing : Standing X at left
    pub reached : Reached (system X) at
    pub left_24 : length left ≡ 24

  -- cart c may enter the zone that it wants
  pub record CanGoOn (at left : List ℕ) (c : ℕ) : Type 0 where
    pub have_moved : HaveMoved at left
    pub cart_16 : c < 16
    pub wants : pos at c < steps X c
    pub may : Permitted (system X) at c

  -- cart c has moved on from `old`, as far as it may go
  pub record GoneOn (old at left : List ℕ) (c : ℕ) : Type 0 where
    pub have_moved : HaveMoved at left
    pub further : sum old < sum at
    pub held_or_out : ¬ (Permitted (system X) at c)

  -- every cart of `inside`, which were not out in `old`, has been asked in turn: it is told which are not out now, or that none has moved,
  -- and then no move is left
  abbrev pub Turned : List ℕ → List ℕ → List ℕ → ℕ → Option ℕ → Type 0
  Turned old at left inside None = HaveMoved at left × InsideSet X at inside × Stuck (system X) at
  Turned old at left inside (Some still) = HaveMoved at left × InsideSet X at still × (sum old < sum at)
