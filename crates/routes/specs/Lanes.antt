-- The stop line: "A lane is one strip of tape". Who is next in front of a cart on its lane, and when the lane holds a cart.
use Rattle.std.specs.Prelude.{ℕ, zero, suc, ◌-◌, Bool, ◌&&◌, List, [], length, get_or, ltb, eqb}
use Rattle.words.specs.Lists.{pick}
use Rattle.moves.specs.System.{pos}
use Rattle.routes.specs.Crossing.{Crossing, steps}

-- one more than the highest number below n that passes the test; 0 where none does
unfoldable pub highest : (ℕ → Bool) → ℕ → ℕ
highest test zero = 0
highest test (suc n) = pick (test n) (suc n) (highest test n)

module _ (lane : ℕ → ℕ) (routes : List (List ℕ)) where
  -- whether cart c has a route, from lane l
  abbrev pub is_on_lane : ℕ → ℕ → Bool
  is_on_lane l c = ltb 0 (length (get_or routes c [])) && eqb (lane c) l

  -- one more than "the next lower-numbered cart of its lane"; 0 where there is none
  unfoldable pub next_in_front : ℕ → ℕ
  next_in_front c = highest (is_on_lane (lane c)) c

module _ (X : Crossing) where
  -- whether cart d is next in front of cart c; an absent cart has no route, and stands on no lane
  abbrev pub is_front : ℕ → ℕ → Bool
  is_front d c = eqb (X.front c) (suc d) && (ltb 0 (steps X d) && ltb 0 (steps X c))

  -- in state s the lane holds cart c: neither it nor the cart in front has made its first move
  abbrev pub lane_holds : List ℕ → ℕ → Bool
  lane_holds s c = let d = X.front c - 1 in eqb (pos s c) 0 && (is_front d c && eqb (pos s d) 0)
