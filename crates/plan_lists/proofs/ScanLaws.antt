-- One turn of each loop of the scan, over what is left: `n - z` of n zones, `k - e` of k entries; and that a refusal has a number.
use Prim.Native.Nat.{ℕ, ◌+◌, ◌-◌, ◌^◌, ◌≤◌, ◌<◌}
use mathlib.Core.Path.{◌≡◌}
use mathlib.Core.Bool.{not, ◌&&◌}
use mathlib.Core.List.{List}
use lib.Count.{ones}
use lib.Dec.{eqb, lit<}
use lib.ListN.{get_or}
use borrow.Author.Tests.{eqb-true}
use Rattle.std.specs.Prelude.{Ok, Err}
use Rattle.words.specs.declared.Outcome.{Outcome}
use Rattle.words.proofs.Tests.{and_both}
use Rattle.words.proofs.Left.{left_suc, left_zero}
use Rattle.fields.specs.Field.{outside}
use Rattle.fields.specs.declared.Cursor.{Cursor}
use Rattle.fields.proofs.TakingLaws.{taking_holds}
use Rattle.sets.specs.inner.Member.{has}
use Rattle.sets.proofs.Laws.{has_below}
use Rattle.plan_lists.specs.inner.Sets.{with_cart, first_late}
use Rattle.plan_lists.specs.inner.Scan.{Taken, got, count_taken, cart_taken, put_count, put_cart, Lists, Scanned, carts_from, lists_from}

module _ (p who lead : List ℕ) (n z : ℕ) (l : Lists) (at : ℕ) where
  pub lists_end : n ≤ z → lists_from p who lead (n - z) z l at ≡ Ok (l, at)
  unfolding lists_from
  lists_end h = rw (left_zero n z h)

  pub lists_refused : z < n → (outcome : Outcome) → count_taken p (get_or who z 0) at ≡ Err outcome → lists_from p who lead (n - z) z l at ≡ Err outcome
  unfolding lists_from
  lists_refused h outcome e = rw (left_suc n z h, e)

  pub lists_count : z < n → (taken : ℕ × Cursor) → count_taken p (get_or who z 0) at ≡ Ok taken
      → lists_from p who lead (n - z) z l at ≡ carts_from p (get_or who z 0) lead z taken.0 0 0 (put_count l z taken.0) taken.1.at
      (lists_from p who lead (n - (z + 1)) (z + 1))
  unfolding lists_from
  lists_count h taken e = rw (left_suc n z h, e)

module _ (p : List ℕ) (who : ℕ) (lead : List ℕ) (z k e seen : ℕ) (l : Lists) (at : ℕ) (go : Lists → ℕ → Scanned) where
  pub carts_end : k ≤ e → carts_from p who lead z (k - e) e seen l at go ≡ go l at
  unfolding carts_from
  carts_end h = rw (left_zero k e h)

  pub carts_refused : e < k → (outcome : Outcome) → cart_taken p who seen at ≡ Err outcome → carts_from p who lead z (k - e) e seen l at go ≡ Err outcome
  unfolding carts_from
  carts_refused h outcome q = rw (left_suc k e h, q)

  pub carts_next : e < k → (taken : ℕ × Cursor) → cart_taken p who seen at ≡ Ok taken
      → carts_from p who lead z (k - e) e seen l at go ≡ carts_from p who lead z (k - (e + 1)) (e + 1) (with_cart seen taken.0)
      (put_cart l z e taken.0 seen (first_late l.late at seen (get_or lead taken.0 0))) taken.1.at go
  unfolding carts_from
  carts_next h taken q = rw (left_suc k e h, q)

-- what every byte that is taken has: its value a rule, a refusal its number
abbrev Fine : (ℕ → Type 0) → Taken → Type 0
Fine Value (Ok (v, next)) = Value v
Fine Value (Err outcome) = 0 < outcome.number

module _ (p : List ℕ) (who at : ℕ) where
  count_fine : Fine (λ k. k ≡ ones who) (count_taken p who at)
  unfolding count_taken
  count_fine =
      taking_holds (Fine (λ k. k ≡ ones who)) Err 15 p 1 (outside at) 19 (λ k. eqb k (ones who)) got (lit< tt) (lit< tt) λ k next e.
      eqb-true k (ones who) e

  pub count_value : (taken : ℕ × Cursor) → count_taken p who at ≡ Ok taken → taken.0 ≡ ones who
  count_value taken e = rw e at count_fine

  pub count_refused : (outcome : Outcome) → count_taken p who at ≡ Err outcome → 0 < outcome.number
  count_refused outcome e = rw e at count_fine

module _ (p : List ℕ) (who seen : ℕ) (few : who < 2 ^ 16) (at : ℕ) where
  cart_fine : Fine (λ i. i < 16) (cart_taken p who seen at)
  unfolding cart_taken
  cart_fine =
      taking_holds (Fine (λ i. i < 16)) Err 15 p 1 (outside at) 19 (λ i. has who i && not (has seen i)) got (lit< tt) (lit< tt) λ i next e.
      has_below 16 who i few (and_both (has who i) _ e).0

  pub cart_value : (taken : ℕ × Cursor) → cart_taken p who seen at ≡ Ok taken → taken.0 < 16
  cart_value taken e = rw e at cart_fine

  pub cart_refused : (outcome : Outcome) → cart_taken p who seen at ≡ Err outcome → 0 < outcome.number
  cart_refused outcome e = rw e at cart_fine
