-- Document 001, section 3.2: the Petri net of a crossing, a 5-tuple of places, transitions, input and output arcs and the initial marking.
use Rattle.std.specs.Prelude.{ℕ, suc, ◌+◌, ◌-◌, ◌≤◌, ◌<◌, ◌≡◌, Bool, true, ◌&&◌, List, [], ◌∷◌, eqb}
use Rattle.words.specs.Lists.{pick}
use Rattle.moves.specs.System.{pos}
use Rattle.routes.specs.Crossing.{Crossing, steps, zone, step_in}
use Rattle.routes.specs.Lanes.{is_front}
use Rattle.routes.specs.Moves.{moves_of}

-- `at c p`: the state of cart c at position p, 0 at its source lane, steps + 1 at its destination lane.
-- `between d c p`: "the available state of" the zone of c's step p "between" cart d, ahead of it there, and cart c.
-- `line d c`: the stop line is free between cart d, next in front, and cart c.
pub data Place : Type 0 where
  at : ℕ → ℕ → Place
  between : ℕ → ℕ → ℕ → Place
  line : ℕ → ℕ → Place

-- how many tokens each place has
abbrev pub Marking : Type 0
Marking = Place → ℕ

-- one token, or one arc, where the test holds
abbrev pub one : Bool → ℕ
one test = pick test 1 0

-- a transition is a move, of a cart from a position: whether that of cart c from p is that of cart x from r
abbrev pub is_move_of : ℕ → ℕ → ℕ → ℕ → Bool
is_move_of c p x r = eqb c x && eqb p r

-- "initial marking represents that every vehicle is at its source lane"
abbrev pub begins : Marking
begins (at c p) = one (eqb p 0)
begins (between d c p) = 0
begins (line d c) = 0

module _ (X : Crossing) where
  abbrev pub IsPlace : Place → Type 0
  IsPlace (at c p) = (0 < steps X c) × (p ≤ moves_of (steps X c))
  IsPlace (between d c p) = (p < steps X c) × (X.before (zone X c p) d c ≡ true)
  IsPlace (line d c) = is_front X d c ≡ true

  abbrev pub IsTransition : ℕ → ℕ → Type 0
  IsTransition x r = r < moves_of (steps X x)

  -- how many arcs run from a place to the transition of cart x from r, and from that to a place
  abbrev pub input : Place → ℕ → ℕ → ℕ
  input (at c p) x r = one (is_move_of c p x r)
  input (between d c p) x r = one (is_move_of c p x r)
  input (line d c) x r = one (is_move_of c 0 x r)

  abbrev pub output : ℕ → ℕ → Place → ℕ
  output x r (at c p) = one (is_move_of c p x (suc r))
  output x r (between d c p) = one (is_move_of d (suc (step_in X d (zone X c p))) x r)
  output x r (line d c) = one (is_move_of d 0 x r)

  -- the transition can fire: each place that an arc runs from has a token
  pub record Enabled (M : Marking) (x r : ℕ) : Type 0 where
    pub transition : IsTransition x r
    pub tokens : (q : Place) → IsPlace q → input q x r ≤ M q

  -- it takes a token from each such place, and gives one to each that an arc runs to
  abbrev pub fired : Marking → ℕ → ℕ → Marking
  fired M x r q = M q - input q x r + output x r q

  -- transitions one after the other, each a cart and its position
  abbrev pub Fires : Marking → List (ℕ × ℕ) → Type 0
  Fires M [] = Unit {0}
  Fires M ((x, r) ∷ later) = Enabled M x r × Fires (fired M x r) later

  abbrev pub fired_all : Marking → List (ℕ × ℕ) → Marking
  fired_all M [] = M
  fired_all M ((x, r) ∷ later) = fired_all (fired M x r) later

  -- "no more transition which can be fired"
  abbrev pub Dead : Marking → Type 0
  Dead M = (x r : ℕ) → ¬ (Enabled M x r)

  -- the marking tells the state: each cart is at the position whose place has its token
  abbrev pub Tells : Marking → List ℕ → Type 0
  Tells M s = (c p : ℕ) → IsPlace (at c p) → M (at c p) ≡ one (eqb (pos s c) p)

  -- "If q out has a token for all i, then we verify that all vehicles can pass the intersection"
  abbrev pub AllPass : Marking → Type 0
  AllPass M = (c : ℕ) → 0 < steps X c → M (at c (suc (steps X c))) ≡ 1
