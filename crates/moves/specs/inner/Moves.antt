-- A cart that may not move, and whom it waits for.
use Rattle.std.specs.Prelude.{ℕ, ◌<◌, List}
use Rattle.moves.specs.System.{System, carts, pos}
use Rattle.moves.specs.Moves.{NotOut, Permitted}

module _ (S : System) where
  -- "cart is held"
  pub record Held (s : List ℕ) (c : ℕ) : Type 0 where
    pub not_out : NotOut S s c
    pub not_permitted : ¬ (Permitted S s c)

  -- cart c waits for cart d, which has not reached the position that c's next move needs
  pub record Waits (s : List ℕ) (c d : ℕ) : Type 0 where
    pub cart : d < carts S
    pub short : pos s d < S.need c (pos s c) d
