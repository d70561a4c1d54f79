-- Levels of cuts: each cut halves a group, so that as many levels as bring it down to one rank are the whole rule.
use Prim.Native.Nat.{ℕ, zero, suc, ◌+◌, ◌-◌, ◌≤◌, ◌<◌}
use mathlib.Core.Path.{◌≡◌, refl, ap, ◌∙◌}
use mathlib.Core.Option.{Option, none, some}
use mathlib.Core.List.{List}
use native.Mathlib.Omega.{arith}
use Rattle.removal.specs.Pairs.{Unplanned, Order}
use Rattle.removal.specs.Removal.{middle, trial, solved}
use Rattle.removal.proofs.Solved.{one_tried, failed_many, solved_some}

-- how many ranks so many levels of cuts bring down to one
abbrev pub reach : ℕ → ℕ
reach zero = 1
reach (suc levels) = reach levels + reach levels

module _ (U : Unplanned) where
  -- no depth beyond these levels matters
  pub levels_suffice : (levels depth low high : ℕ) (decided : List Order) → high ≤ low + reach levels → high - low < depth
      → solved U depth low high decided ≡ solved U levels low high decided
  unfolding solved
  levels_suffice zero depth low high decided small h = solved_some U low high decided decided (one_tried U low high decided (omega arith)) depth h
  levels_suffice (suc levels) zero low high decided small h = absurd (omega arith)
  levels_suffice (suc levels) (suc depth) low high decided small h = go (trial U low high decided) refl (λ l m s. levels_suffice levels depth l m s)
    where
      go : (t : Option (List Order)) → trial U low high decided ≡ t
          → ((l m : ℕ) (s : List Order) → m ≤ l + reach levels → m - l < depth → solved U depth l m s ≡ solved U levels l m s)
          → ◌≡◌ {A = List Order}
          (elim t [ some all ↦ all | none ↦ solved U depth (middle low high) high (solved U depth low (middle low high) decided) ])
          (elim t [ some all ↦ all | none ↦ solved U levels (middle low high) high (solved U levels low (middle low high) decided) ])
      go (some all) e rest = refl
      go none e rest =
          let many = failed_many U low high decided e in
          rest (middle low high) high (solved U depth low (middle low high) decided) (omega arith) (omega arith)
          ∙ ap (solved U levels (middle low high) high) (rest low (middle low high) decided (omega arith) (omega arith))
