-- Sets joined and shared, by their members; and a set that grows with the number of carts looked at.
use Prim.Native.Nat.{ℕ, ◌+◌, ◌≤◌, ◌<◌}
use mathlib.Core.Path.{◌≡◌, refl, sym, ap, ◌∙◌}
use mathlib.Core.Bool.{Bool, true, false, ◌||◌, or-false}
use mathlib.Core.List.{List}
use native.Mathlib.Omega.{arith}
use lib.ListN.{get_or}
use lib.Dec.{leb}
use lib.Bits.{bit_and, bit_or}
use borrow.Author.Tests.{le-leb, lt-leb}
use Rattle.sets.specs.inner.Member.{has, With}
use Rattle.sets.specs.Counting.{set_below}
use Rattle.sets.proofs.Laws.{has_and, has_or}
use Rattle.sets.proofs.Counting.{has_set, set_with, set_as_before}
use Rattle.planner_groups.specs.inner.Opening.{Joined}

pub joined_on : (old more among : ℕ) → Joined old more among true (bit_or old (bit_and more among))
joined_on old more among d = has_or old (bit_and more among) d ∙ ap (λ (b : Bool). has old d || b) (has_and more among d)

pub joined_off : (old more among : ℕ) → Joined old more among false old
joined_off old more among d = sym (or-false (has old d))

pub set_has : (n : ℕ) (test : ℕ → Bool) (set : ℕ) → set ≡ set_below n test → (i : ℕ) → i < n → has set i ≡ test i
set_has n test set is i l = rw is (has_set n test i l)

-- ---- the carts whose number in a table is enough

module _ (table : List ℕ) (least c set number : ℕ) (so_far : set ≡ set_below c (λ d. leb least (get_or table d 0))) (is : number ≡ get_or table c 0) where
  pub least_more : (r : ℕ) → least ≤ number → With set c r → r ≡ set_below (c + 1) (λ d. leb least (get_or table d 0))
  least_more r enough more = sym (set_with c _ r (le-leb least (get_or table c 0) (omega arith)) (rw so_far at more))

  pub least_skip : number < least → set ≡ set_below (c + 1) (λ d. leb least (get_or table d 0))
  least_skip short = so_far ∙ sym (set_as_before c _ (lt-leb least (get_or table c 0) (omega arith)))

pub least_none : (test : ℕ → Bool) → 0 ≡ set_below 0 test
unfolding set_below
least_none test = refl
