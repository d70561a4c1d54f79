-- How runs end: all carts out, or no move left.
use Rattle.std.specs.Prelude.{ℕ, List}
use Rattle.moves.specs.System.{System}
use Rattle.moves.specs.Moves.{Permitted}
use Rattle.moves.specs.Runs.{Reaches}

module _ (S : System) where
  -- some run from s brings all carts out
  abbrev pub AllComeOut : List ℕ → Type 0
  AllComeOut s = Reaches S s S.out

  -- no move is left
  abbrev pub Stuck : List ℕ → Type 0
  Stuck s = (c : ℕ) → ¬ (Permitted S s c)
