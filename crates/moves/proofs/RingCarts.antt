-- The carts of a ring, entry by entry: each after the first is above it, and none comes twice before the first comes again.
use Prim.Native.Nat.{ℕ, zero, suc, ◌+◌, ◌-◌, ◌<◌}
use mathlib.Core.Path.{◌≡◌, sym, ap, ◌∙◌}
use mathlib.Core.Logic.{◌≢◌}
use mathlib.Core.List.{List, [], ◌∷◌}
use native.Mathlib.Omega.{arith}
use lib.ListN.{length, get_or}
use Rattle.moves.specs.Rings.{follow}
use Rattle.moves.specs.inner.Rings.{Leads}
use Rattle.moves.proofs.Pointing.{follow_add, leads_turn, leads_entry}

-- every cart of a ring after its first is above the first
pub rest_above : (to : ℕ → ℕ) (first c : ℕ) (rest : List ℕ) → Leads to first c rest → (i : ℕ) → i < length rest → first < get_or rest i 0
rest_above to first c [] l i h = absurd (omega arith)
rest_above to first c (d ∷ rest) l zero h = l.1
rest_above to first c (d ∷ rest) l (suc i) h = rest_above to first d rest l.2 i (omega arith)

-- no cart of a ring comes twice before its first does again
pub ring_distinct : (to : ℕ → ℕ) (first : ℕ) (rest : List ℕ) → Leads to first first rest
    → (i k : ℕ) → i < k → k < suc (length rest) → follow to i first ≢ follow to k first
ring_distinct to first rest round i k l h same =
    let left = suc (length rest) - k in
    let n = left - 1 + i in
    let far : left + k ≡ suc (length rest) = omega arith in
    let on : left + i ≡ suc n = omega arith in
    let again : follow to (suc n) first ≡ first =
    ap (λ (x : ℕ). follow to x first) (sym on) ∙ sym (follow_add to left i first) ∙ ap (follow to left) same ∙ follow_add to left k first
    ∙ ap (λ (x : ℕ). follow to x first) far ∙ leads_turn to first first rest round in
    omega (arith, rest_above to first first rest round n (omega arith), leads_entry to first first rest round (suc n) (omega arith), again)
