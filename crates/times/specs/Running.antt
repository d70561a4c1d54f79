-- "work out times over the orders present": the moves of a crossing, whether they have a cycle, and its entering times.
use Rattle.std.specs.Prelude.{ℕ, Bool, List, eqb}
use Rattle.moves.specs.System.{carts, pos, start, sum}
use Rattle.moves.specs.Runs.{greedy, end}
use Rattle.moves.specs.Values.{worked_out}
use Rattle.routes.specs.Lists.{all_below}
use Rattle.routes.specs.Crossing.{Crossing}
use Rattle.routes.specs.Moves.{system}
use Rattle.times.specs.Times.{Given, entering}

module _ (X : Crossing) where
  -- "Make permitted moves until none is left": the carts in the order in which they move
  unfoldable pub moves_made : List ℕ
  moves_made = greedy (system X) (sum (system X).out) (start (system X))

  -- whether every cart is out then: so it is exactly if the moves have no cycle
  unfoldable pub is_out : Bool
  is_out =
      let at = end (system X) (start (system X)) in
      all_below (λ c. eqb (pos at c) (pos (system X).out c)) (carts (system X))

  -- "Work in the order of the moves": the entering time of step j of cart c, worked out along a run
  unfoldable pub entering_time : Given → List ℕ → ℕ → ℕ → ℕ
  entering_time G run = worked_out (entering X G) (λ _ _. 0) (start (system X)) run
