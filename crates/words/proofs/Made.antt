-- What `array::from_fn` makes by a closure that changes nothing: each entry is what the call with its number gives.
use Prim.Native.Nat.{ℕ, zero, suc, ◌+◌, ◌≤◌, ◌<◌}
use mathlib.Core.Path.{◌≡◌, refl, sym, subst, ◌∙◌}
use mathlib.Core.List.{List}
use native.Mathlib.Decide.{ℕ_discrete, dec_lt}
use native.Mathlib.Omega.{arith}
use denote.Param.Members.{Mut, Called}
use lib.ListN.{length, get_or, get_or-eq_default}
use lib.Seq.{ext_get_or}
use Rattle.std.specs.Array.{IsFromFnResult, IsFromFnResultFrom}
use Rattle.words.specs.Lists.{entries}
use Rattle.words.proofs.Entries.{entries_is}

module _ {F : Type 0} {g : Mut F (ℕ × Unit {0}) ℕ} {f : F} {ys : List ℕ} {n : ℕ} (made : IsFromFnResult g f ys n) where
  module _ (P : ℕ → ℕ → Type 0) (calls : (i y : ℕ) (q : F) → i < n → Called g f (i, tt) y q → (q ≡ f) × P i y) where
    made_on : (m i : ℕ) → i + m ≡ n → (p : F) → p ≡ f → IsFromFnResultFrom g p ys i m → (k : ℕ) → i ≤ k → k < n → P k (get_or ys k 0)
    made_on zero i e p same rest k l h = absurd (omega arith)
    made_on (suc m) i e p same (q, y, at, call, rest) k l h =
        let (stays, gives) = calls i y q (omega arith) (subst (λ (w : F). Called g w (i, tt) y q) same call) in
        elim (ℕ_discrete k i) [
          | yes here ↦ rw (here, at.1 0) gives
          | no later ↦ made_on m (i + 1) (omega arith) q stays rest k (omega (arith, later)) h
        ]

    pub made_each : (k : ℕ) → k < n → P k (get_or ys k 0)
    made_each k h = made_on n 0 (omega arith) f refl made.each k (omega arith) h

  pub made_table : (rule : ℕ → ℕ) → ((i y : ℕ) (q : F) → i < n → Called g f (i, tt) y q → (q ≡ f) × (y ≡ rule i)) → ys ≡ entries n 0 rule
  made_table rule calls = entries_is ys n rule made.long (made_each (λ k y. y ≡ rule k) calls)

  pub made_list : (l : List ℕ) → ((i y : ℕ) (q : F) → i < n → Called g f (i, tt) y q → (q ≡ f) × (y ≡ get_or l i 0)) → length l ≡ n → ys ≡ l
  made_list l calls long = ext_get_or 0 ys l (made.long ∙ sym long) λ k h. made_each (λ i y. y ≡ get_or l i 0) calls k (omega (arith, made.long))

  pub made_below : (most : ℕ) → 0 < most → ((i y : ℕ) (q : F) → i < n → Called g f (i, tt) y q → (q ≡ f) × (y < most)) → (x : ℕ) → get_or ys x 0 < most
  made_below most some calls x =
      elim (dec_lt x n) [
        | yes l ↦ made_each (λ _ y. y < most) calls x l
        | no m ↦ rw (get_or-eq_default ys 0 {n = x} (omega (arith, m, made.long))) some
      ]
