-- The Petri net of a crossing as text, by docs/NET.md: "one place, transition or arc a line, in order of cart, then step, then the other cart".
use Rattle.std.specs.Prelude.{ℕ, suc, ◌+◌, ◌/◌, ◌%◌, List, [], ◌∷◌, ◌++◌, length, drop, leb, ltb}
use Prim.Native.Char.{code}
use Prim.Native.String.{String, [] as none, ◌∷◌ as cons}
use Rattle.words.specs.Lists.{pick, each}
use Rattle.routes.specs.Crossing.{Crossing, steps, zone, step_in}
use Rattle.routes.specs.Moves.{is_behind, is_in_line}

-- A line, of cart c, its position p, the other cart d and that one's position q, as far as it has them.
pub data Line : Type 0 where
  -- `c p`: the place of the cart at the position; its move from there; from the place to the move; from the move to the place of the next position
  place_cart : ℕ → ℕ → Line
  transition : ℕ → ℕ → Line
  cart_arc : ℕ → ℕ → Line
  arc_cart : ℕ → ℕ → Line
  -- `c d`: the stop line is free between d, next in front, and c; from the first move of d to that place; from there to the first move of c
  place_line : ℕ → ℕ → Line
  arc_line : ℕ → ℕ → Line
  line_arc : ℕ → ℕ → Line
  -- `c p d`: the zone that c enters by its move from p is free between d, ahead of it there, and c;
  -- `c p d q`: from the move of d out of that zone, which is from q, to that place; `c p d`: from there to the move of c
  place_pair : ℕ → ℕ → ℕ → Line
  arc_pair : ℕ → ℕ → ℕ → ℕ → Line
  pair_arc : ℕ → ℕ → ℕ → Line

-- ---- the bytes of a line

-- a text's bytes, in ASCII
unfoldable pub bytes : String → List ℕ
bytes none = []
bytes (cons c text) = code c ∷ bytes text

-- "a number in decimal with two digits, or `--`"
abbrev pub digits : ℕ → List ℕ
digits n = (48 + n / 10) ∷ (48 + n % 10) ∷ []

abbrev pub dashes : List ℕ
dashes = bytes "--"

-- "a word of ten, four times a blank and two characters, and a line feed"
abbrev pub line_of : String → List ℕ → List ℕ → List ℕ → List ℕ → List ℕ
line_of word c p d q = bytes word ++ bytes " " ++ c ++ bytes " " ++ p ++ bytes " " ++ d ++ bytes " " ++ q ++ bytes "\n"

unfoldable pub line_text : Line → List ℕ
line_text (place_cart c p) = line_of "place cart" (digits c) (digits p) dashes dashes
line_text (transition c p) = line_of "transition" (digits c) (digits p) dashes dashes
line_text (cart_arc c p) = line_of "arc cart >" (digits c) (digits p) dashes dashes
line_text (arc_cart c p) = line_of "arc > cart" (digits c) (digits p) dashes dashes
line_text (place_line c d) = line_of "place line" (digits c) (digits 0) (digits d) dashes
line_text (arc_line c d) = line_of "arc > line" (digits c) (digits 0) (digits d) (digits 0)
line_text (line_arc c d) = line_of "arc line >" (digits c) (digits 0) (digits d) dashes
line_text (place_pair c p d) = line_of "place pair" (digits c) (digits p) (digits d) dashes
line_text (arc_pair c p d q) = line_of "arc > pair" (digits c) (digits p) (digits d) (digits q)
line_text (pair_arc c p d) = line_of "arc pair >" (digits c) (digits p) (digits d) dashes

-- lines one after the other
unfoldable pub text_of : List Line → List ℕ
text_of [] = []
text_of (l ∷ lines) = line_text l ++ text_of lines

-- ---- the lines of a crossing

-- of a move; of the stop line; of a pair
abbrev pub move_lines : ℕ → ℕ → List Line
move_lines c p = transition c p ∷ cart_arc c p ∷ arc_cart c p ∷ []

abbrev pub lane_lines : ℕ → ℕ → List Line
lane_lines c d = place_line c d ∷ arc_line c d ∷ line_arc c d ∷ []

abbrev pub pair_lines : ℕ → ℕ → ℕ → ℕ → List Line
pair_lines c p d q = place_pair c p d ∷ arc_pair c p d q ∷ pair_arc c p d ∷ []

module _ (X : Crossing) where
  -- "first the four lines with no other cart .. (the last position has only its place)"
  unfoldable pub own_lines : ℕ → ℕ → List Line
  own_lines c p = place_cart c p ∷ pick (leb p (steps X c)) (move_lines c p) []

  -- the position from which cart d moves out of the zone that cart c enters from p
  abbrev pub out_from : ℕ → ℕ → ℕ → ℕ
  out_from c p d = suc (step_in X d (zone X c p))

  -- "then for each other cart .. the three of the stop line and the three of the pair, where there are any"
  unfoldable pub other_lines : ℕ → ℕ → ℕ → List Line
  other_lines c p d =
      pick (is_in_line X c p d) (lane_lines c d) [] ++ pick (is_behind X c p d) (pair_lines c p d (out_from c p d)) []

  unfoldable pub position_lines : ℕ → ℕ → List Line
  position_lines c p = own_lines c p ++ each (length X.routes) 0 (other_lines c p)

  -- "0 on the lane, k in the k-th zone of the route, steps + 1 out"; an absent cart has no position
  abbrev pub positions : ℕ → ℕ
  positions c = pick (ltb 0 (steps X c)) (steps X c + 2) 0

  unfoldable pub cart_lines : ℕ → List Line
  cart_lines c = each (positions c) 0 (position_lines c)

  -- "By cart, then by position, then by the other cart"
  unfoldable pub net_lines : List Line
  net_lines = each (length X.routes) 0 cart_lines

  unfoldable pub net_text : List ℕ
  net_text = text_of net_lines

-- a room with a text at its start: "Bytes beyond the text are untouched"
abbrev pub with_text : List ℕ → List ℕ → List ℕ
with_text text room = text ++ drop (length text) room
