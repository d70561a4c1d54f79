-- Moves numbered so that none comes before itself.
use Rattle.std.specs.Prelude.{ℕ, ◌<◌}
use Rattle.moves.specs.System.{System}
use Rattle.moves.specs.Cycles.{Before}

module _ (S : System) where
  -- the moves can be numbered so that each has a higher number than those right before it
  pub record Ranked : Type 0 where
    pub rank : ℕ → ℕ → ℕ
    pub rises : (d q c p : ℕ) → Before S d q c p → rank d q < rank c p
