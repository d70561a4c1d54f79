-- What a move of one cart does to the tokens: to that where a cart stands, and to one that lies between two moves, the first made, the second not.
use Prim.Native.Nat.{ℕ, suc, ◌+◌, ◌-◌, ◌≤◌, ◌<◌}
use mathlib.Core.Path.{◌≡◌, refl, sym, ap, ap₂, ◌∙◌}
use mathlib.Core.Logic.{◌↔◌, ◌≢◌, inl, inr}
use mathlib.Core.Bool.{Bool, true, false, not, ◌&&◌, ◌||◌, true≢false, not-eq-not, and-true, or-false}
use mathlib.Core.List.{List}
use native.Mathlib.Decide.{ℕ_discrete, dec_lt}
use native.Mathlib.Omega.{arith}
use lib.ListN.{length}
use lib.Dec.{ltb, eqb}
use borrow.Author.Tests.{ltb-true, lt-ltb, le-ltb, eq-eqb, ne_eqb}
use Rattle.words.proofs.Tests.{eqb_says, and_says, same_test, eqb_turned}
use Rattle.moves.specs.System.{pos}
use Rattle.moves.specs.Moves.{moved}
use Rattle.moves.proofs.Positions.{moved_same, moved_cases, Change}
use Rattle.petri.specs.Net.{one, is_move_of}

pub move_says : (c p x r : ℕ) → (is_move_of c p x r ≡ true) ↔ ((c ≡ x) × (p ≡ r))
move_says c p x r = and_says _ _ (eqb_says c x) (eqb_says p r)

pub not_move : (c p x r : ℕ) → ¬ ((c ≡ x) × (p ≡ r)) → is_move_of c p x r ≡ false
not_move c p x r other = (not-eq-not {b = false}).0 (λ t. other ((move_says c p x r).0 t))

pub own_move : (c p : ℕ) → is_move_of c p c p ≡ true
own_move c p = (move_says c p c p).1 (refl, refl)

pub is_one : (b : Bool) → 1 ≤ one b → b ≡ true
is_one true h = refl
is_one false h = absurd (omega arith)

pub is_none : (b : Bool) → one b ≡ 0 → b ≡ false
is_none true e = absurd (omega arith)
is_none false e = refl

-- as many arcs as tokens where each arc has one
pub one_le : (a b : Bool) → (a ≡ true → b ≡ true) → one a ≤ one b
one_le true b h = rw (h refl) (omega arith)
one_le false b h = omega arith

-- what a place has that loses a token, gets one or neither, where it has one to lose and room for one
pub one_token : (old taken given : Bool) → (taken ≡ true → old ≡ true) → (given ≡ true → old ≡ false)
    → one old - one taken + one given ≡ one ((old && not taken) || given)
one_token old true true has none = absurd (true≢false (sym (has refl) ∙ none refl))
one_token old true false has none = rw (has refl) (omega arith)
one_token old false true has none = rw (none refl) (omega arith)
one_token old false false has none = rw (and-true old, or-false old) (omega arith)

-- a token between the move of d from q and the move of c from p: that one is made, this one is not
abbrev pub is_waiting : List ℕ → ℕ → ℕ → ℕ → ℕ → Bool
is_waiting s d q c p = ltb q (pos s d) && not (ltb p (pos s c))

abbrev pub waiting : List ℕ → ℕ → ℕ → ℕ → ℕ → ℕ
waiting s d q c p = one (is_waiting s d q c p)

pub waits : (s : List ℕ) (d q c p : ℕ) → q < pos s d → pos s c ≤ p → is_waiting s d q c p ≡ true
waits s d q c p made unmade = rw (lt-ltb q (pos s d) made, le-ltb p (pos s c) unmade)

module _ (s : List ℕ) (x : ℕ) (inside : x < length s) where
  -- a move that is not the one made is made after it just where it was before
  made_same : (d q : ℕ) → is_move_of d q x (pos s x) ≡ false → ltb q (pos (moved s x) d) ≡ ltb q (pos s d)
  made_same d q n = go (moved_cases s x d)
    where
      go : Change s x d → ltb q (pos (moved s x) d) ≡ ltb q (pos s d)
      go (inl e) = ap (ltb q) e
      go (inr (cart, e)) =
          let other : q ≢ pos s x = λ at. true≢false (sym ((move_says d q x (pos s x)).1 (cart, at)) ∙ n) in
          let here : pos s d ≡ pos s x = ap (pos s) cart in
          same_test _ _ (λ t. lt-ltb q (pos s d) (omega (arith, ltb-true q (pos (moved s x) d) t)))
          (λ t. lt-ltb q (pos (moved s x) d) (omega (arith, ltb-true q (pos s d) t)))

  pub waiting_moved : (d q c p : ℕ) → (is_move_of c p x (pos s x) ≡ true → q < pos s d) → (p < pos s c → q < pos s d)
      → waiting (moved s x) d q c p ≡ waiting s d q c p - one (is_move_of c p x (pos s x)) + one (is_move_of d q x (pos s x))
  waiting_moved d q c p permits closed = go (is_move_of c p x (pos s x)) refl (is_move_of d q x (pos s x)) refl
    where
      after : pos (moved s x) x ≡ suc (pos s x)
      after = moved_same s x inside

      go : (b : Bool) → is_move_of c p x (pos s x) ≡ b → (a : Bool) → is_move_of d q x (pos s x) ≡ a
          → waiting (moved s x) d q c p ≡ waiting s d q c p - one b + one a
      go true e true f =
          let (cart, first) = (move_says d q x (pos s x)).0 f in
          absurd (omega (arith, permits e, ap (pos s) cart))
      go true e false f =
          let (cart, at) = (move_says c p x (pos s x)).0 e in
          let was : waiting s d q c p ≡ 1 = ap one (waits s d q c p (permits e) (omega (arith, ap (pos s) cart))) in
          let now : waiting (moved s x) d q c p ≡ 0 =
          ap₂ (λ (u v : Bool). one (u && not v)) (made_same d q f ∙ lt-ltb q (pos s d) (permits e))
          (lt-ltb p (pos (moved s x) c) (omega (arith, after, ap (pos (moved s x)) cart))) in
          omega arith
      go false e true f =
          let (cart, at) = (move_says d q x (pos s x)).0 f in
          let short : pos s d ≤ q = omega (arith, ap (pos s) cart) in
          let unmade : pos s c ≤ p = elim (dec_lt p (pos s c)) [ yes made ↦ absurd (omega (arith, closed made)) | no n ↦ omega arith ] in
          let was : waiting s d q c p ≡ 0 = ap (λ (u : Bool). one (u && not (ltb p (pos s c)))) (le-ltb q (pos s d) short) in
          let now : waiting (moved s x) d q c p ≡ 1 =
          ap₂ (λ (u v : Bool). one (u && not v)) (lt-ltb q (pos (moved s x) d) (omega (arith, after, ap (pos (moved s x)) cart)))
          (made_same c p e ∙ le-ltb p (pos s c) unmade) in
          omega arith
      go false e false f =
          let same : waiting (moved s x) d q c p ≡ waiting s d q c p = ap₂ (λ (u v : Bool). one (u && not v)) (made_same d q f) (made_same c p e) in
          omega arith

  -- a token where cart c stands
  pub standing_moved : (c p : ℕ)
      → one (eqb (pos (moved s x) c) p) ≡ one (eqb (pos s c) p) - one (is_move_of c p x (pos s x)) + one (is_move_of c p x (suc (pos s x)))
  standing_moved c p = go (ℕ_discrete c x) (moved_cases s x c)
    where
      Claim : Type 0
      Claim = one (eqb (pos (moved s x) c) p) ≡ one (eqb (pos s c) p) - one (is_move_of c p x (pos s x)) + one (is_move_of c p x (suc (pos s x)))

      go : Dec (c ≡ x) → Change s x c → Claim
      go (yes cart) _ =
          let here : eqb c x ≡ true = eq-eqb c x cart in
          let after : pos (moved s x) c ≡ suc (pos s x) = ap (pos (moved s x)) cart ∙ moved_same s x inside in
          rw (here, after, ap (pos s) cart, eqb_turned (pos s x) p, eqb_turned (suc (pos s x)) p) (omega arith)
      go (no other) (inl e) = rw (ne_eqb c x other, e) (omega arith)
      go (no other) (inr (cart, _)) = absurd (other cart)
