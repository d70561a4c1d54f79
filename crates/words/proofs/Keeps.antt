-- What every check of a list keeps, put together from what its parts keep: so of the one that fails first.
use Prim.Native.Nat.{ℕ, ◌<◌}
use mathlib.Core.List.{List, [], ◌∷◌, ◌++◌}
use native.Mathlib.Omega.{arith}
use Rattle.words.specs.Lists.{All, each}
use Rattle.words.specs.Checks.{Check, FirstFails}
use Rattle.words.proofs.All.{all_append, all_each, all_as}
use Rattle.words.proofs.First.{fails_keeps}

pub record Keeps (Rule : Check → Type 0) (checks : List Check) : Type 0 where
  pub all : All Rule checks

module _ {Rule : Check → Type 0} where
  pub one_keeps : {c : Check} → Rule c → Keeps Rule (c ∷ [])
  one_keeps h = record { all = (h, tt) }

  infixl 65 ◌with◌
  pub ◌with◌ : {a b : List Check} → Keeps Rule a → Keeps Rule b → Keeps Rule (a ++ b)
  ◌with◌ {a} {b} h k = record { all = all_append Rule a b h.all k.all }

  pub each_keeps : (n : ℕ) {rule : ℕ → List Check} → ((k : ℕ) → k < n → Keeps Rule (rule k)) → Keeps Rule (each n 0 rule)
  each_keeps n {rule} h = record { all = all_each Rule n 0 rule (λ k _ l. (h k (omega arith)).all) }

  pub keeps_as : {Other : Check → Type 0} {checks : List Check} → ((c : Check) → Rule c → Other c) → Keeps Rule checks → Keeps Other checks
  keeps_as {Other} {checks} f h = record { all = all_as Rule Other f checks h.all }

  pub first_keeps : {checks : List Check} {c : Check} → Keeps Rule checks → FirstFails checks c → Rule c
  first_keeps {checks} {c} h f = fails_keeps Rule checks c h.all f
