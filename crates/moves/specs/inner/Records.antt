-- Which records runs reach: those in which each move made had what it needs.
use Rattle.std.specs.Prelude.{ℕ, ◌≤◌, ◌<◌, List}
use Rattle.moves.specs.System.{System, carts, pos, start}
use Rattle.moves.specs.Runs.{Reaches}

module _ (S : System) where
  -- some run reaches the record
  abbrev pub Reached : List ℕ → Type 0
  Reached t = Reaches S (start S) t

  -- what each move that the state counts needs is there
  abbrev pub Closed : List ℕ → Type 0
  Closed s = (c p d : ℕ) → p < pos s c → d < carts S → S.need c p d ≤ pos s d

  -- no move needs a cart to be further than out
  abbrev pub Meetable : Type 0
  Meetable = Closed S.out
