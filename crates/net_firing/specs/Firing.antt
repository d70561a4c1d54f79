-- "fire transitions until none can fire": the net's verdict, and the positions that the marking left tells.
use Rattle.std.specs.Prelude.{ℕ, ◌≤◌, ◌≡◌, ◌↔◌, List, length}
use Rattle.moves.specs.System.{pos}
use Rattle.routes.specs.Crossing.{Crossing, steps}
use Rattle.petri.specs.Net.{begins, Fires, fired_all, Dead, Tells, AllPass}

pub record FiredOut (X : Crossing) (locked : ℕ) (position : List ℕ) : Type 0 where
  -- transitions fire one after the other from the first marking, until "no more transition .. can be fired"
  pub sequence : List (ℕ × ℕ)
  pub fires : Fires X begins sequence
  pub dead : Dead X (fired_all X begins sequence)
  -- 1 if some cart's out place has no token then, else 0
  pub free : (locked ≡ 0) ↔ AllPass X (fired_all X begins sequence)
  pub locked_most : locked ≤ 1
  -- "the marking left tells the same position for each cart"; absent ones of the 16 carts 0
  pub told : Tells X (fired_all X begins sequence) position
  pub position_16 : length position ≡ 16
  pub absent : (c : ℕ) → steps X c ≡ 0 → pos position c ≡ 0
