-- States side by side, and systems that differ in what their moves need.
use Rattle.std.specs.Prelude.{ℕ, ◌≤◌, ◌<◌, ◌≡◌, List, length}
use Rattle.moves.specs.System.{System, carts, pos}

infix 50 ◌≼◌
-- no cart is further in s than in t
abbrev pub ◌≼◌ : List ℕ → List ℕ → Type 0
s ≼ t = (c : ℕ) → pos s c ≤ pos t c

-- a state has a position for each cart, none past out
pub record InRange (S : System) (s : List ℕ) : Type 0 where
  pub sized : length s ≡ carts S
  pub within : s ≼ S.out

-- the same carts and moves, and no move of S needs more than it does in S': S is S' with fewer pairs decided
pub record Looser (S S' : System) : Type 0 where
  pub same_out : S.out ≡ S'.out
  pub less_need : (c p d : ℕ) → p < pos S.out c → d < carts S → S.need c p d ≤ S'.need c p d
