-- Rounds of moves: one cart's, as far as it may go, and a turn of the carts that are not out and that the lane does not hold.
use Rattle.std.specs.Prelude.{ℕ, ◌≤◌, ◌<◌, ◌≡◌, ◌↔◌, Bool, true, false, List, length, get_or, take, ltb}
use Rattle.sets.specs.inner.Member.{has}
use Rattle.sets.specs.Counting.{set_below}
use Rattle.moves.specs.System.{pos, start, sum}
use Rattle.moves.specs.Moves.{NotOut, Permitted}
use Rattle.moves.specs.Runs as moves
use Rattle.moves.specs.Runs.{after}
use Rattle.moves.specs.inner.Runs.{Stuck}
use Rattle.routes.specs.Crossing.{Crossing, steps}
use Rattle.routes.specs.Lanes.{is_front, lane_holds}
use Rattle.routes.specs.Moves.{system}
use Rattle.times.specs.Times.{Given}
use Rattle.judge_one_move.specs.declared.Run.{Run}
use Rattle.judge_one_move.specs.inner.Running.{Running}

-- the set of those of the first n carts that have steps
unfoldable pub present_set : List ℕ → ℕ → ℕ
present_set steps n = set_below n (λ c. ltb 0 (get_or steps c 0))

module _ (X : Crossing) where
  -- `inside` is the set of the carts that are not out; each of them wants a zone, for out of its last zone a cart goes at once
  pub record InsideSet (at : List ℕ) (inside : ℕ) : Type 0 where
    pub not_out : (c : ℕ) → (has inside c ≡ true) ↔ NotOut (system X) at c
    pub wants : (c : ℕ) → has inside c ≡ true → pos at c < steps X c

  -- `asked` is the set of the carts that are not out and that the lane does not hold; each of them wants a zone
  pub record AskedSet (at : List ℕ) (asked : ℕ) : Type 0 where
    pub asks : (c : ℕ) → (has asked c ≡ true) ↔ (NotOut (system X) at c × (lane_holds X at c ≡ false))
    pub wants : (c : ℕ) → has asked c ≡ true → pos at c < steps X c

  -- `going` are the carts that are asked in the next turn: none where no move is left, else all that the lane does not hold
  pub record Going (at : List ℕ) (going : ℕ) : Type 0 where
    pub none_left : going ≡ 0 → Stuck (system X) at
    pub asked : 0 < going → AskedSet at going

  -- `freed` is the cart that the lane holds no more once cart c has started, if c had not
  abbrev pub Frees : List ℕ → ℕ → ℕ → Type 0
  Frees old c freed = (d : ℕ) → (has freed d ≡ true) ↔ ((pos old c ≡ 0) × (is_front X c d ≡ true))

module _ (X : Crossing) (G : Given) where
  -- the carts of a run are under way by its moves, and the first entries of its order are the carts that made them, first to last
  pub record Underway (run : Run) : Type 0 where
    pub running : Running X G run.at run.left run.leave run.enter
    pub counted : run.made ≡ sum run.at
    pub order_144 : length run.order ≡ 144
    pub is_run : moves.Run (system X) (start (system X)) (take run.made run.order)
    pub run_ends : after (start (system X)) (take run.made run.order) ≡ run.at

  -- cart c alone has moved on from where `old` had come
  pub record Onward (old run : Run) (c : ℕ) : Type 0 where
    pub underway : Underway run
    pub no_fewer : old.made ≤ run.made
    pub none_made : run.made ≡ old.made → run.at ≡ old.at
    pub others : (d : ℕ) → ¬ (d ≡ c) → pos run.at d ≡ pos old.at d

  -- cart c has started, by its first move if it stood in its lane; `freed` is who was held behind it
  pub record Started (old run : Run) (c freed : ℕ) : Type 0 where
    pub onward : Onward old run c
    pub started : 0 < pos run.at c
    pub within : pos run.at c ≤ steps X c
    pub frees : Frees X old.at c freed
    pub behind : (d : ℕ) → has freed d ≡ true → c < d

  -- cart c, which has started, has moved on as far as it may go, and out or not
  pub record Advanced (old run : Run) (c : ℕ) (out : Bool) : Type 0 where
    pub onward : Onward old run c
    pub started : 0 < pos run.at c
    pub held_or_out : ¬ (Permitted (system X) run.at c)
    pub is_out : out ≡ true → steps X c < pos run.at c
    pub not_out : out ≡ false → pos run.at c ≤ steps X c

  -- every cart that was asked has moved on in turn from where `old` had come; `going` are asked in the next turn
  pub record Swept (old run : Run) (going : ℕ) : Type 0 where
    pub underway : Underway run
    pub no_fewer : old.made ≤ run.made
    pub some_made : 0 < going → old.made < run.made
    pub going_is : Going X run.at going
