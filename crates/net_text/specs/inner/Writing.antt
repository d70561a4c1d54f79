-- Lines written into a room, one after the other, as far as it reaches.
use Rattle.std.specs.Prelude.{ℕ, ◌+◌, ◌*◌, ◌≤◌, ◌<◌, ◌≡◌, List, [], ◌∷◌, ◌++◌, length, get_or, Option, Some, None, IfSome}
use Rattle.std.proofs.lemmas.List.Edits.{sets}
use Rattle.words.specs.Lists.{All}
use Rattle.net_text.specs.declared.TextLine.{TextLine}
use Rattle.net_text.specs.declared.TextLine.TheVariants.{PlaceCart, Transition, CartArc, ArcCart, PlaceLine, ArcLine, LineArc, PlacePair, ArcPair, PairArc}
use Rattle.net_text.specs.declared.Writer.{Writer}
use Rattle.net_text.specs.Lines.{
  Line,
  place_cart,
  transition,
  cart_arc,
  arc_cart,
  place_line,
  arc_line,
  line_arc,
  place_pair,
  arc_pair,
  pair_arc,
  digits,
  dashes,
  line_text,
  text_of,
}

-- the line that is meant
abbrev pub meant : TextLine → Line
meant (PlaceCart c p) = place_cart c p
meant (Transition c p) = transition c p
meant (CartArc c p) = cart_arc c p
meant (ArcCart c p) = arc_cart c p
meant (PlaceLine c d) = place_line c d
meant (ArcLine c d) = arc_line c d
meant (LineArc c d) = line_arc c d
meant (PlacePair c p d) = place_pair c p d
meant (ArcPair c p d q) = arc_pair c p d q
meant (PairArc c p d) = pair_arc c p d

-- its four numbers, as far as it has them
abbrev pub numbers : Line → List (Option ℕ)
numbers (place_cart c p) = Some c ∷ Some p ∷ None ∷ None ∷ []
numbers (transition c p) = Some c ∷ Some p ∷ None ∷ None ∷ []
numbers (cart_arc c p) = Some c ∷ Some p ∷ None ∷ None ∷ []
numbers (arc_cart c p) = Some c ∷ Some p ∷ None ∷ None ∷ []
numbers (place_line c d) = Some c ∷ Some 0 ∷ Some d ∷ None ∷ []
numbers (arc_line c d) = Some c ∷ Some 0 ∷ Some d ∷ Some 0 ∷ []
numbers (line_arc c d) = Some c ∷ Some 0 ∷ Some d ∷ None ∷ []
numbers (place_pair c p d) = Some c ∷ Some p ∷ Some d ∷ None ∷ []
numbers (arc_pair c p d q) = Some c ∷ Some p ∷ Some d ∷ Some q ∷ []
numbers (pair_arc c p d) = Some c ∷ Some p ∷ Some d ∷ None ∷ []

-- they have two digits
abbrev pub InRange : Line → Type 0
InRange l = All (λ n. IfSome n (λ n. n < 100)) (numbers l)

-- a number's digits; where there is none, dashes
abbrev pub shown : Option ℕ → List ℕ
shown None = dashes
shown (Some n) = digits n

-- four numbers, a blank before each, and a line feed
abbrev pub shown_numbers : List (Option ℕ) → List ℕ
shown_numbers four =
    (32 ∷ shown (get_or four 0 None)) ++ ((32 ∷ shown (get_or four 1 None))
    ++ ((32 ∷ shown (get_or four 2 None)) ++ ((32 ∷ shown (get_or four 3 None)) ++ (10 ∷ []))))

-- the line has this word, of ten bytes, and these numbers
pub record Shows (l : Line) (word : List ℕ) (shows : List (Option ℕ)) : Type 0 where
  pub text : line_text l ≡ word ++ shown_numbers shows
  pub ten : length word ≡ 10
  pub its_numbers : shows ≡ numbers l

-- more lines than any net has: of 16 carts at 10 positions 4, and 6 with each of 16 others
abbrev pub most_lines : ℕ
most_lines = 16000

-- these lines are written after those before; a room that does not reach to their end has no promise
pub record Wrote (lines : List Line) (before after : Writer) : Type 0 where
  pub counted : after.lines ≡ before.lines + length lines
  pub same : length after.room.now ≡ length before.room.now
  pub stored : 23 * after.lines ≤ length before.room.now → after.room.now ≡ sets before.room.now (23 * before.lines) (text_of lines)
  pub same_room : after.room.ghost_name ≡ before.room.ghost_name
