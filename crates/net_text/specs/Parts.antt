-- The parts of the net, and which of them a line says; "one place, transition or arc a line, in order of cart, then step, then the other cart".
use Rattle.std.specs.Prelude.{ℕ, suc, ◌<◌, ◌≡◌, ◌≢◌, ◌⊎◌}
use mathlib.Core.List.{List, [], ◌∷◌, Memᴰ}
use Rattle.words.specs.Lists.{All}
use Rattle.routes.specs.Crossing.{Crossing}
use Rattle.petri.specs.Net.{Place, at, between, line, IsPlace, IsTransition, input, output}
use Rattle.net_text.specs.Lines.{Line, place_cart, transition, cart_arc, arc_cart, place_line, arc_line, line_arc, place_pair, arc_pair, pair_arc}

-- a place; the transition of cart x from r, which is its move; the arc from a place to that transition, and the arc from that to a place
pub data Part : Type 0 where
  a_place : Place → Part
  a_transition : ℕ → ℕ → Part
  an_input : Place → ℕ → ℕ → Part
  an_output : ℕ → ℕ → Place → Part

-- it is one of the net's
abbrev pub IsPart : Crossing → Part → Type 0
IsPart X (a_place q) = IsPlace X q
IsPart X (a_transition x r) = IsTransition X x r
IsPart X (an_input q x r) = IsPlace X q × IsTransition X x r × (input X q x r ≡ 1)
IsPart X (an_output x r q) = IsPlace X q × IsTransition X x r × (output X x r q ≡ 1)

-- what a line says
abbrev pub says : Line → Part
says (place_cart c p) = a_place (at c p)
says (transition c p) = a_transition c p
says (cart_arc c p) = an_input (at c p) c p
says (arc_cart c p) = an_output c p (at c (suc p))
says (place_line c d) = a_place (line d c)
says (arc_line c d) = an_output d 0 (line d c)
says (line_arc c d) = an_input (line d c) c 0
says (place_pair c p d) = a_place (between d c p)
says (arc_pair c p d q) = an_output d q (between d c p)
says (pair_arc c p d) = an_input (between d c p) c p

-- a line's place in the order: by cart, then by position, then by the other cart, where none comes first; of those as the table has them
abbrev pub placed : Line → ℕ × ℕ × ℕ × ℕ
placed (place_cart c p) = (c, p, 0, 0)
placed (transition c p) = (c, p, 0, 1)
placed (cart_arc c p) = (c, p, 0, 2)
placed (arc_cart c p) = (c, p, 0, 3)
placed (place_line c d) = (c, 0, suc d, 4)
placed (arc_line c d) = (c, 0, suc d, 5)
placed (line_arc c d) = (c, 0, suc d, 6)
placed (place_pair c p d) = (c, p, suc d, 7)
placed (arc_pair c p d q) = (c, p, suc d, 8)
placed (pair_arc c p d) = (c, p, suc d, 9)

abbrev pub Before : Line → Line → Type 0
Before a b =
    let (c, p, d, k) = placed a in
    let (c', p', d', k') = placed b in
    (c < c') ⊎ ((c ≡ c') × ((p < p') ⊎ ((p ≡ p') × ((d < d') ⊎ ((d ≡ d') × (k < k'))))))

-- each line stands so to all that follow it
abbrev pub Pairwise : (Line → Line → Type 0) → List Line → Type 0
Pairwise R [] = Unit {0}
Pairwise R (l ∷ later) = All (R l) later × Pairwise R later

-- the lines of a net: one for each of its parts and no other, none twice, in order
pub record LinesOf (X : Crossing) (lines : List Line) : Type 0 where
  pub every : (part : Part) → IsPart X part → (l : Line) × (says l ≡ part) × Memᴰ l lines
  pub no_other : All (λ l. IsPart X (says l)) lines
  pub once : Pairwise ◌≢◌ lines
  pub in_order : Pairwise Before lines
