-- A marking as tables: for each step the carts whose pair place before it has a token, the carts whose line place has one, and each cart's state place.
use Rattle.std.specs.Prelude.{ℕ, ◌+◌, ◌*◌, ◌≤◌, ◌<◌, ◌≡◌, Bool, true, false, not, ◌&&◌, ◌||◌, List, length, get_or, ltb, eqb, Some}
use Rattle.std.specs.Option.{option_eq}
use Rattle.sets.specs.inner.Member.{has}
use Rattle.moves.specs.System.{pos, sum}
use Rattle.routes.specs.Crossing.{Crossing, steps}
use Rattle.routes.specs.Moves.{moves_of}
use Rattle.judge_entering.specs.inner.Lanes.{front_at, cart_in_front}
use Rattle.petri.specs.Net.{Place, at, between, line, Marking, one, begins, IsPlace, Enabled, Fires, fired_all}
use Rattle.net_firing.specs.declared.Tokens.{Tokens}

-- the tokens that the tables have
abbrev pub tokens : Tokens → Marking
tokens t (at c p) = one (eqb (pos t.position c) p)
tokens t (between d c p) = one (has (get_or t.pairs (8 * c + p) 0) d)
tokens t (line d c) = one (has t.lines c)

-- the pair places before the step at x have lost their tokens, those of the carts ahead of it
abbrev pub Takes : List ℕ → List ℕ → ℕ → List ℕ → Type 0
Takes ahead pairs x after = (y d : ℕ) → has (get_or after y 0) d ≡ (has (get_or pairs y 0) d && not (eqb y x && has (get_or ahead y 0) d))

-- what was so is so still, and so is what passes the test of the first n
abbrev pub Upto : (ℕ → Bool) → (ℕ → Bool) → ℕ → (ℕ → Bool) → Type 0
Upto old test n now = (y : ℕ) → now y ≡ (old y || (ltb y n && test y))

-- whether cart c is ahead of the step at y, in zone z
abbrev pub is_ahead_in : List ℕ → List ℕ → ℕ → ℕ → ℕ → Bool
is_ahead_in zone ahead z c y = eqb (get_or zone y 0) z && has (get_or ahead y 0) c

-- the pair places before those of the first n steps that cart c is ahead of in zone z have got the token of cart c
abbrev pub Gives : List ℕ → List ℕ → List ℕ → ℕ → ℕ → ℕ → List ℕ → Type 0
Gives zone ahead pairs z c n after =
    (d : ℕ) → Upto (λ y. has (get_or pairs y 0) d) (λ y. eqb d c && is_ahead_in zone ahead z c y) n (λ y. has (get_or after y 0) d)

-- the line places of those of the first n carts that have cart c next in front have got a token
abbrev pub LineGives : List ℕ → ℕ → ℕ → ℕ → ℕ → Type 0
LineGives lanes lines c n after = Upto (has lines) (λ e. option_eq eqb (cart_in_front (front_at lanes e)) (Some c)) n (has after)

-- those of the first n carts that have steps stand past their last
abbrev pub AllPast : List ℕ → List ℕ → ℕ → Type 0
AllPast steps position n = (c : ℕ) → c < n → 0 < get_or steps c 0 → get_or steps c 0 < pos position c

module _ (X : Crossing) where
  -- the transition of cart c from where it stands can fire
  abbrev pub CanFire : Tokens → ℕ → Type 0
  CanFire t c = Enabled X (tokens t) c (pos t.position c)

  -- the tables hold the marking that a firing sequence leaves
  pub record Marked (t : Tokens) : Type 0 where
    pub sequence : List (ℕ × ℕ)
    pub fires : Fires X begins sequence
    pub holds : (q : Place) → IsPlace X q → fired_all X begins sequence q ≡ tokens t q
    pub pairs_128 : length t.pairs ≡ 128
    pub position_16 : length t.position ≡ 16
    pub within : (c : ℕ) → pos t.position c ≤ moves_of (steps X c)

  -- the first n carts have been asked once: where a transition has fired there are more moves than in `old`, else none of them can fire
  pub record Asked (old t : Tokens) (fired : Bool) (n : ℕ) : Type 0 where
    pub marked : Marked t
    pub no_less : sum old.position ≤ sum t.position
    pub further : fired ≡ true → sum old.position < sum t.position
    pub none_can : fired ≡ false → (c : ℕ) → c < n → ¬ (CanFire t c)
