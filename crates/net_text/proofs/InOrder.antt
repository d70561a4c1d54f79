-- The lines of a crossing are in order. The idea: the lists that a rule makes are in order one after the other where the number is told by their lines.
use Prim.Native.Nat.{ℕ, zero, suc, ◌+◌, ◌≤◌, ◌<◌}
use mathlib.Core.Path.{◌≡◌, refl, sym}
use mathlib.Core.Logic.{◌≢◌, inl, inr}
use mathlib.Core.Bool.{Bool, true, false, ◌&&◌}
use mathlib.Core.List.{List, [], ◌∷◌, ◌++◌}
use native.Mathlib.Omega.{arith}
use lib.ListN.{length}
use lib.Dec.{leb, ltb}
use borrow.Author.Tests.{ltb-true}
use Rattle.words.specs.Lists.{pick, All, each}
use Rattle.words.proofs.All.{all_append, all_each, all_as}
use Rattle.words.proofs.Tests.{and_both}
use Rattle.routes.specs.Crossing.{Crossing, steps}
use Rattle.routes.specs.Moves.{is_behind, is_in_line}
use Rattle.routes.proofs.Moves.{line_says}
use Rattle.net_text.specs.Lines.{
  Line,
  place_cart,
  move_lines,
  lane_lines,
  pair_lines,
  out_from,
  own_lines,
  other_lines,
  position_lines,
  positions,
  cart_lines,
  net_lines,
}
use Rattle.net_text.specs.Parts.{placed, Before, Pairwise}

before_never : (l : Line) → ¬ (Before l l)
before_never l (inl h) = omega arith
before_never l (inr (_, inl h)) = omega arith
before_never l (inr (_, inr (_, inl h))) = omega arith
before_never l (inr (_, inr (_, inr (_, h)))) = omega arith

-- lines in order are different lines
pub order_once : (lines : List Line) → Pairwise Before lines → Pairwise ◌≢◌ lines
order_once [] h = tt
order_once (l ∷ later) (first, h) = (all_as (Before l) (λ m. l ≢ m) (λ m b e. before_never l (rw (← e) at b)) later first, order_once later h)

order_append : (a b : List Line) → Pairwise Before a → Pairwise Before b → All (λ l. All (Before l) b) a → Pairwise Before (a ++ b)
order_append [] b h k apart = k
order_append (l ∷ a) b (first, h) k (here, apart) = (all_append (Before l) a b first here, order_append a b h k apart)

-- `At k l`: the line is one of number k
module _ (At : ℕ → Line → Type 0) (apart : (i k : ℕ) (l m : Line) → i < k → At i l → At k m → Before l m) (rule : ℕ → List Line)
    (all-at : (k : ℕ) → All (At k) (rule k)) (ordered : (k : ℕ) → Pairwise Before (rule k)) where
  order_each : (n i : ℕ) → Pairwise Before (each n i rule)
  unfolding each
  order_each zero i = tt
  order_each (suc n) i =
      order_append (rule i) (each n (i + 1) rule) (ordered i) (order_each n (i + 1))
      (all_as (At i) (λ l. All (Before l) (each n (i + 1) rule)) before_later (rule i) (all-at i))
    where
      before_later : (l : Line) → At i l → All (Before l) (each n (i + 1) rule)
      before_later l h =
          all_each (Before l) n (i + 1) rule λ k later _. all_as (At k) (Before l) (λ m. apart i k l m (omega arith) h) (rule k) (all-at k)

-- a line of cart c; of its position p; of the other cart d, with number suc d, or of none, with number 0
abbrev OfCart : ℕ → Line → Type 0
OfCart c l = (placed l).0 ≡ c

abbrev OfPosition : ℕ → ℕ → Line → Type 0
OfPosition c p l = OfCart c l × ((placed l).1 ≡ p)

abbrev OfOther : ℕ → ℕ → ℕ → Line → Type 0
OfOther c p k l = OfPosition c p l × ((placed l).2 ≡ k)

other_apart : (c p i k : ℕ) (l m : Line) → i < k → OfOther c p i l → OfOther c p k m → Before l m
other_apart c p i k l m h ((a, b), e) ((a', b'), e') = inr (omega arith, inr (omega arith, inl (omega arith)))

-- lines of one cart, position and other cart are in order by their words
abbrev word : Line → ℕ
word l = (placed l).3

abbrev rising : ℕ → List Line → Bool
rising k [] = true
rising k (l ∷ later) = ltb k (word l) && rising (word l) later

abbrev are_rising : List Line → Bool
are_rising [] = true
are_rising (l ∷ later) = rising (word l) later

module _ (c p k : ℕ) where
  before_all : (l : Line) → OfOther c p k l → (j : ℕ) → word l ≤ j → (later : List Line) → All (OfOther c p k) later → rising j later ≡ true
      → All (Before l) later
  before_all l at j h [] all rises = tt
  before_all l ((a, b), e) j h (m ∷ later) (((a', b'), e'), all) rises =
      let (below, rest) = and_both _ _ rises in
      let less : j < word m = ltb-true j (word m) below in
      (inr (omega arith, inr (omega arith, inr (omega arith, omega arith))), before_all l ((a, b), e) (word m) (omega arith) later all rest)

  words_in_order : (list : List Line) → All (OfOther c p k) list → are_rising list ≡ true → Pairwise Before list
  words_in_order [] all rises = tt
  words_in_order (l ∷ []) all rises = (tt, tt)
  words_in_order (l ∷ m ∷ later) (here, all) rises = (
    before_all l here (word l) (omega arith) (m ∷ later) all rises,
    words_in_order (m ∷ later) all (and_both (ltb (word l) (word m)) (rising (word m) later) rises).1,
  )

module _ (X : Crossing) where
  own_at : (c p : ℕ) → All (OfOther c p 0) (own_lines X c p)
  unfolding own_lines
  own_at c p = (((refl, refl), refl), moving (leb p (steps X c)))
    where
      moving : (b : Bool) → All (OfOther c p 0) (pick b (move_lines c p) [])
      moving true = (((refl, refl), refl), (((refl, refl), refl), (((refl, refl), refl), tt)))
      moving false = tt

  own_in_order : (c p : ℕ) → Pairwise Before (own_lines X c p)
  unfolding own_lines
  own_in_order c p = words_in_order c p 0 (own_lines X c p) (own_at c p) (rises (leb p (steps X c)))
    where
      rises : (b : Bool) → are_rising (place_cart c p ∷ pick b (move_lines c p) []) ≡ true
      rises true = refl
      rises false = refl

  other_at : (c p d : ℕ) → All (OfOther c p (suc d)) (other_lines X c p d)
  unfolding other_lines
  other_at c p d = all_append (OfOther c p (suc d)) (pick (is_in_line X c p d) (lane_lines c d) []) _ (lane (is_in_line X c p d) refl) (pair (is_behind X c p d))
    where
      lane : (b : Bool) → is_in_line X c p d ≡ b → All (OfOther c p (suc d)) (pick b (lane_lines c d) [])
      lane true t =
          let first : 0 ≡ p = sym ((line_says X c p d).0 t).0 in
          (((refl, first), refl), (((refl, first), refl), (((refl, first), refl), tt)))
      lane false t = tt

      pair : (b : Bool) → All (OfOther c p (suc d)) (pick b (pair_lines c p d (out_from X c p d)) [])
      pair true = (((refl, refl), refl), (((refl, refl), refl), (((refl, refl), refl), tt)))
      pair false = tt

  other_in_order : (c p d : ℕ) → Pairwise Before (other_lines X c p d)
  unfolding other_lines
  other_in_order c p d = words_in_order c p (suc d) (other_lines X c p d) (other_at c p d) (rises (is_in_line X c p d) (is_behind X c p d))
    where
      rises : (a b : Bool) → are_rising (pick a (lane_lines c d) [] ++ pick b (pair_lines c p d (out_from X c p d)) []) ≡ true
      rises true true = refl
      rises true false = refl
      rises false true = refl
      rises false false = refl

  position_at : (c p : ℕ) → All (OfPosition c p) (position_lines X c p)
  unfolding position_lines
  position_at c p =
      all_append (OfPosition c p) (own_lines X c p) _ (all_as (OfOther c p 0) (OfPosition c p) (λ l at. at.0) (own_lines X c p) (own_at c p))
      (all_each (OfPosition c p) (length X.routes) 0 (other_lines X c p) λ d _ _.
      all_as (OfOther c p (suc d)) (OfPosition c p) (λ l at. at.0) (other_lines X c p d) (other_at c p d))

  position_in_order : (c p : ℕ) → Pairwise Before (position_lines X c p)
  unfolding position_lines
  position_in_order c p =
      order_append (own_lines X c p) (each (length X.routes) 0 (other_lines X c p)) (own_in_order c p)
      (order_each (λ d. OfOther c p (suc d)) (λ i k l m h. other_apart c p (suc i) (suc k) l m (omega arith)) (other_lines X c p) (other_at c p)
      (other_in_order c p) (length X.routes) 0)
      (all_as (OfOther c p 0) (λ l. All (Before l) (each (length X.routes) 0 (other_lines X c p))) before_others (own_lines X c p) (own_at c p))
    where
      before_others : (l : Line) → OfOther c p 0 l → All (Before l) (each (length X.routes) 0 (other_lines X c p))
      before_others l own =
          all_each (Before l) (length X.routes) 0 (other_lines X c p) λ d _ _.
          all_as (OfOther c p (suc d)) (Before l) (λ m. other_apart c p 0 (suc d) l m (omega arith) own) (other_lines X c p d) (other_at c p d)

  cart_at : (c : ℕ) → All (OfCart c) (cart_lines X c)
  unfolding cart_lines
  cart_at c =
      all_each (OfCart c) (positions X c) 0 (position_lines X c) λ p _ _.
      all_as (OfPosition c p) (OfCart c) (λ l at. at.0) (position_lines X c p) (position_at c p)

  cart_in_order : (c : ℕ) → Pairwise Before (cart_lines X c)
  unfolding cart_lines
  cart_in_order c =
      order_each (OfPosition c) (λ i k l m h (a, b) (a', b'). inr (omega arith, inl (omega arith))) (position_lines X c) (position_at c) (position_in_order c)
      (positions X c) 0

  pub lines_in_order : Pairwise Before (net_lines X)
  unfolding net_lines
  lines_in_order = order_each OfCart (λ i k l m h a a'. inl (omega arith)) (cart_lines X) cart_at cart_in_order (length X.routes) 0
