-- The chain from a cart down to one that may move, as a property.
use Rattle.std.specs.Prelude.{ℕ, suc, ◌-◌, ◌≤◌, ◌<◌, ◌≡◌, ◌≢◌, List, length, get_or}
use Rattle.moves.specs.System.{System, carts}
use Rattle.moves.specs.Moves.{Permitted}
use Rattle.moves.specs.inner.Moves.{Waits}

-- a chain of carts: it begins with cart c, each waits for the next, the last may move, and none stands in it twice
pub record HeldBy (S : System) (s : List ℕ) (c : ℕ) (chain : List ℕ) : Type 0 where
  pub some : 0 < length chain
  pub few : length chain ≤ carts S
  pub begins : get_or chain 0 0 ≡ c
  pub waits : (i : ℕ) → suc i < length chain → Waits S s (get_or chain i 0) (get_or chain (suc i) 0)
  pub may_move : Permitted S s (get_or chain (length chain - 1) 0)
  pub no_cart_twice : (i j : ℕ) → i < j → j < length chain → get_or chain i 0 ≢ get_or chain j 0
