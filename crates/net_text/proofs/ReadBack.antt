-- A line is read back from its bytes, so that no two lines have the same; and texts of whole lines that are the same have the same lines.
use Prim.Native.Nat.{ℕ, ◌+◌, ◌-◌, ◌*◌}
use mathlib.Core.Path.{◌≡◌, refl, sym, ap, ap₂, ◌∙◌}
use mathlib.Core.List.{List, [], ◌∷◌}
use native.Mathlib.Omega.{arith}
use lib.ListN.{length, get_or, take, drop, length-append}
use lib.Seq.{take_at, drop_at}
use lib.Dec.{eqb}
use Rattle.words.specs.Lists.{pick}
use Rattle.net_text.specs.Lines.{
  Line,
  place_cart,
  transition,
  cart_arc,
  arc_cart,
  place_line,
  arc_line,
  line_arc,
  place_pair,
  arc_pair,
  pair_arc,
  bytes,
  digits,
  line_text,
  text_of,
}

-- the number whose two digits stand at a place
abbrev number : List ℕ → ℕ → ℕ
number s at = (get_or s at 0 - 48) * 10 + (get_or s (at + 1) 0 - 48)

-- by the letter c, l or p that a word has for `cart`, `line` or `pair`
abbrev by_letter : ℕ → Line → Line → Line → Line
by_letter letter cart line pair = pick (eqb letter 99) cart (pick (eqb letter 108) line pair)

-- the letter stands at 4 in `arc cart >`, else at 6
unfoldable read_back : List ℕ → Line
read_back s =
    let c = number s 11 in
    let p = number s 14 in
    let d = number s 17 in
    pick (eqb (get_or s 0 0) 116) (transition c p)
    (pick (eqb (get_or s 0 0) 112) (by_letter (get_or s 6 0) (place_cart c p) (place_line c d) (place_pair c p d))
    (pick (eqb (get_or s 4 0) 62) (by_letter (get_or s 6 0) (arc_cart c p) (arc_line c d) (arc_pair c p d (number s 20)))
    (by_letter (get_or s 4 0) (cart_arc c p) (line_arc c d) (pair_arc c p d))))

number_is : (n : ℕ) → number (digits n) 0 ≡ n
number_is n = omega arith

read_back_lem : (l : Line) → read_back (line_text l) ≡ l
unfolding read_back line_text bytes
read_back_lem (place_cart c p) = ap₂ place_cart (number_is c) (number_is p)
read_back_lem (transition c p) = ap₂ transition (number_is c) (number_is p)
read_back_lem (cart_arc c p) = ap₂ cart_arc (number_is c) (number_is p)
read_back_lem (arc_cart c p) = ap₂ arc_cart (number_is c) (number_is p)
read_back_lem (place_line c d) = ap₂ place_line (number_is c) (number_is d)
read_back_lem (arc_line c d) = ap₂ arc_line (number_is c) (number_is d)
read_back_lem (line_arc c d) = ap₂ line_arc (number_is c) (number_is d)
read_back_lem (place_pair c p d) = cc (number_is c, number_is p, number_is d)
read_back_lem (arc_pair c p d q) = cc (number_is c, number_is p, number_is d, number_is q)
read_back_lem (pair_arc c p d) = cc (number_is c, number_is p, number_is d)

pub line_once : (a b : Line) → line_text a ≡ line_text b → a ≡ b
line_once a b e = sym (read_back_lem a) ∙ ap read_back e ∙ read_back_lem b

pub line_length : (l : Line) → length (line_text l) ≡ 23
unfolding line_text bytes
line_length (place_cart c p) = refl
line_length (transition c p) = refl
line_length (cart_arc c p) = refl
line_length (arc_cart c p) = refl
line_length (place_line c d) = refl
line_length (arc_line c d) = refl
line_length (line_arc c d) = refl
line_length (place_pair c p d) = refl
line_length (arc_pair c p d q) = refl
line_length (pair_arc c p d) = refl

pub text_length : (lines : List Line) → length (text_of lines) ≡ 23 * length lines
unfolding text_of
text_length [] = refl
text_length (l ∷ lines) = length-append (line_text l) (text_of lines) ∙ omega (arith, line_length l, text_length lines)

-- the first 23 bytes are the first line's
pub lines_once : (a b : List Line) → text_of a ≡ text_of b → a ≡ b
unfolding text_of
lines_once [] [] e = refl
lines_once [] (m ∷ b) e = absurd (omega (arith, ap length e, text_length (m ∷ b)))
lines_once (l ∷ a) [] e = absurd (omega (arith, ap length e, text_length (l ∷ a)))
lines_once (l ∷ a) (m ∷ b) e =
    ap₂ ◌∷◌
    (line_once l m (sym (take_at (line_text l) (text_of a) 23 (line_length l)) ∙ ap (take 23) e ∙ take_at (line_text m) (text_of b) 23 (line_length m)))
    (lines_once a b (sym (drop_at (line_text l) (text_of a) 23 (line_length l)) ∙ ap (drop 23) e ∙ drop_at (line_text m) (text_of b) 23 (line_length m)))
