-- What is lowest is what the definition finds.
use Prim.Native.Nat.{ℕ, ◌≤◌, ◌<◌}
use mathlib.Core.Path.{◌≡◌, sym, ◌∙◌}
use mathlib.Core.Bool.{Bool, true, false, true≢false}
use mathlib.Core.Option.{Option, none, some, get_or}
use native.Mathlib.Omega.{arith}
use native.Mathlib.Decide.{dec_lt}
use Rattle.moves.specs.Search.{lowest}
use Rattle.moves.specs.inner.Search.{IsLowest}
use Rattle.moves.proofs.Search.{lowest_is}

pub lowest_found : (test : ℕ → Bool) (n r : ℕ) → r ≤ n → ((d : ℕ) → d < r → test d ≡ false) → (r < n → test r ≡ true) → r ≡ get_or (lowest test n) n
lowest_found test n r most lower here = go (lowest test n) (lowest_is test n)
  where
    go : (o : Option ℕ) → IsLowest test n o → r ≡ get_or o n
    go none all = by (dec_lt r n)
      where
        by : Dec (r < n) → r ≡ n
        by (yes l) = absurd (true≢false (sym (here l) ∙ all r l))
        by (no m) = omega (arith, m)
    go (some c) least = by (dec_lt r c) (dec_lt c r)
      where
        by : Dec (r < c) → Dec (c < r) → r ≡ c
        by (yes l) e = absurd (true≢false (sym (here (omega (arith, least.0))) ∙ least.2 r l))
        by (no m) (yes l) = absurd (true≢false (sym least.1 ∙ lower c l))
        by (no m) (no k) = omega (arith, m, k)
