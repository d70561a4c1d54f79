-- "this cart wants .., held by that cart, which wants the next, down to a cart that may move now": for any rule of pointing.
use Rattle.std.specs.Prelude.{ℕ, suc, List}
use Rattle.std.proofs.Math.Option.{get_or}
use Rattle.words.specs.Lists.{entries}
use Rattle.moves.specs.System.{System, carts}
use Rattle.moves.specs.Search.{lowest}
use Rattle.moves.specs.Moves.{is_permitted}
use Rattle.moves.specs.Rings.{follow}

module _ (S : System) (s : List ℕ) (to : ℕ → ℕ) (c : ℕ) where
  -- how many carts, cart c among them, are held before one may move; the number of carts where none may
  unfoldable pub held_for : ℕ
  held_for = get_or (lowest (λ i. is_permitted S s (follow to i c)) (carts S)) (carts S)

  -- cart c, the cart that it points to, and so on to the first that may move
  abbrev pub chain_of : List ℕ
  chain_of = entries (suc held_for) 0 λ i. follow to i c
