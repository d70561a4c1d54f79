-- Members of lists: what holds of all holds of each, and what is in the list of some number is among the lists that a rule makes, one after the other.
use Prim.Native.Nat.{ℕ, zero, suc, ◌+◌, ◌≤◌, ◌<◌}
use mathlib.Core.Path.{subst, sym}
use mathlib.Core.Logic.{inl, inr}
use mathlib.Core.List.Memᴰ
use mathlib.Core.List.{List, [], ◌∷◌, Memᴰ}
use native.Mathlib.Decide.{ℕ_discrete}
use native.Mathlib.Omega.{arith}
use Rattle.words.specs.Lists.{All, each}

module _ {A : Type 0} where
  pub all_among : (P : A → Type 0) (list : List A) → All P list → (a : A) → Memᴰ a list → P a
  all_among P [] all a m = absurd (Memᴰ.not-nil m)
  all_among P (b ∷ list) (here, later) a m =
      elim (Memᴰ.cases_cons m) [ inl e ↦ subst P (sym e) here | inr l ↦ all_among P list later a l ]

  pub each_has : (rule : ℕ → List A) (a : A) (n i k : ℕ) → i ≤ k → k < i + n → Memᴰ a (rule k) → Memᴰ a (each n i rule)
  unfolding each
  each_has rule a zero i k l h m = absurd (omega arith)
  each_has rule a (suc n) i k l h m =
      elim (ℕ_discrete k i) [
        | yes e ↦ Memᴰ.append_left (each n (i + 1) rule) (rw e at m)
        | no e ↦ Memᴰ.append_right (rule i) (each_has rule a n (i + 1) k (omega arith) (omega arith) m)
      ]
