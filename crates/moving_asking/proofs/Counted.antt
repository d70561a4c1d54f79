-- Counting along a list up to a cart is counting the numbers that are ahead of it in the list.
use Prim.Native.Nat.{ℕ, suc, ◌+◌, ◌<◌}
use mathlib.Core.Path.{◌≡◌, refl, sym, ap, ◌∙◌}
use mathlib.Core.Bool.{Bool, true, false, ◌&&◌, ◌||◌, not-eq-not}
use mathlib.Core.List.{List, [], ◌∷◌}
use native.Mathlib.Decide.{ℕ_discrete}
use native.Mathlib.Omega.{arith}
use lib.Dec.{eqb}
use borrow.Author.Tests.{eq-eqb, ne_eqb}
use Rattle.words.specs.Lists.{pick}
use Rattle.sets.specs.Counting.{bit, count_below}
use Rattle.sets.proofs.Counting.{count_none, count_same, count_more}
use Rattle.routes.specs.Lists.{is_ahead}
use Rattle.routes.specs.inner.Lists.{Named, Distinct}
use Rattle.routes.proofs.Ahead.{ahead_named}
use Rattle.moving_asking.specs.Ahead.{count_ahead}

pub count_ahead_lem : (n : ℕ) (test : ℕ → Bool) (list : List ℕ) (c : ℕ) → Distinct list → ((x : ℕ) → Named list x → x < n)
    → count_ahead test list c ≡ count_below n (λ d. is_ahead list c d && test d)
unfolding count_ahead is_ahead
count_ahead_lem n test [] c once below = sym (count_none n _ (λ d _. refl))
count_ahead_lem n test (a ∷ list) c once below =
    go (eqb a c) (count_ahead_lem n test list c (λ e k l h. once (suc e) (suc k) (omega arith) (omega arith))
    (λ x (e, l, at). below x (suc e, omega arith, at)))
  where
    first_new : is_ahead list c a ≡ false
    first_new = (not-eq-not {b = false}).0 (λ h. let (e, l, at) = ahead_named list c a h in once 0 (suc e) (omega arith) (omega arith) (sym at))

    others : ℕ → Bool
    others d = is_ahead list c d && test d

    all : ℕ → Bool
    all d = (eqb a d || is_ahead list c d) && test d

    more : (b : Bool) → test a ≡ b → bit b + count_below n others ≡ count_below n all
    more true e =
        let one : count_below n all ≡ suc (count_below n others) =
        count_more n a others all (below a (0, omega arith, refl)) (rw first_new) (rw (eq-eqb a a refl, e)) (λ d other. rw (ne_eqb a d (λ q. other (sym q)))) in
        omega (arith, one)
    more false e = let none : count_below n others ≡ count_below n all = count_same n others all (λ d _. same d (ℕ_discrete a d)) in omega (arith, none)
      where
        same : (d : ℕ) → Dec (a ≡ d) → others d ≡ all d
        same d (yes q) = rw (← q, e, first_new, eq-eqb a a refl)
        same d (no other) = rw (ne_eqb a d other)

    go : (b : Bool) → count_ahead test list c ≡ count_below n (λ d. is_ahead list c d && test d)
        → pick b 0 (bit (test a) + count_ahead test list c) ≡ count_below n (λ d. pick b false (eqb a d || is_ahead list c d) && test d)
    go true rest = sym (count_none n _ (λ d _. refl))
    go false rest = ap (λ (k : ℕ). bit (test a) + k) rest ∙ more (test a) refl
