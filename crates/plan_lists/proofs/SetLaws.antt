-- The sets' operations as the definitions have them: sets by a test.
use Prim.Native.Nat.{ℕ, ◌^◌, ◌<◌}
use mathlib.Core.Path.{◌≡◌, refl, ap}
use mathlib.Core.Bool.{Bool, true, false, not, ◌&&◌, false≢true, not-eq-not}
use mathlib.Core.Logic.{◌↔◌}
use Rattle.words.specs.Lists.{any_below}
use Rattle.words.proofs.Any.{any_none, none_any}
use Rattle.sets.specs.inner.Member.{has, With, Within}
use Rattle.sets.proofs.Laws.{within_below}
use Rattle.sets.proofs.Counting.{set_is}
use Rattle.plan_lists.specs.inner.Sets.{with_cart}

pub with_is : (seen i r : ℕ) → r < 2 ^ 16 → With seen i r → r ≡ with_cart seen i
with_is seen i r h w = set_is 16 r _ h (λ d _. w d)

-- no cart is in one set and not in the other
none_left : (a b : ℕ) → a < 2 ^ 16 → (any_below (λ d. has a d && not (has b d)) 16 ≡ false) ↔ Within a b
none_left a b h = (λ e. within_below 16 a b h (kept e), λ w. none_any _ 16 (λ d _. none (has a d) (has b d) (w d)))
  where
    none : (x y : Bool) → (x ≡ true → y ≡ true) → (x && not y) ≡ false
    none true y f = ap not (f refl)
    none false y f = refl

    kept : any_below (λ d. has a d && not (has b d)) 16 ≡ false → (d : ℕ) → d < 16 → has a d ≡ true → has b d ≡ true
    kept e d l m = (not-eq-not {b = true}).0 (λ f. any_none _ 16 e d l (rw (m, f)))

-- what a test of all of one in the other says
pub some_left : (a b : ℕ) (r : Bool) → a < 2 ^ 16 → (r ≡ true) ↔ Within a b → any_below (λ d. has a d && not (has b d)) 16 ≡ not r
some_left a b true h says = (none_left a b h).1 (says.0 refl)
some_left a b false h says = (not-eq-not {b = true}).0 (λ e. false≢true (says.1 ((none_left a b h).0 e)))
