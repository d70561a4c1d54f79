-- What a store leaves as it was, in tables of one row and of rows.
use Prim.Native.Nat.{ℕ, ◌≤◌, ◌<◌}
use mathlib.Core.Path.{◌≡◌, refl, sym, ◌∙◌}
use mathlib.Core.Logic.Iff
use mathlib.Core.Logic.{◌↔◌, ◌⊎◌, inl, inr}
use mathlib.Core.Bool.{true, ◌||◌}
use mathlib.Core.List.{List}
use native.Mathlib.Decide.{ℕ_discrete}
use native.Mathlib.Omega.{arith}
use lib.ListN.{length, get_or, set, length-set}
use lib.Seq.{get_or-set_same, get_or-set_other}
use lib.Dec.{eqb}
use Rattle.words.proofs.Tests.{eqb_says, or_says}
use Rattle.sets.specs.inner.Member.{has, With}
use Rattle.judge_entering.specs.inner.Times.{AtMost}
use Rattle.judge_one_move.specs.inner.Running.{Joins}

pub most_stored : (most : ℕ) (table : List ℕ) (x value : ℕ) → AtMost most table → x < length table → value ≤ most → AtMost most (set table x value)
most_stored most table x value all l h y = go (ℕ_discrete y x)
  where
    go : Dec (y ≡ x) → get_or (set table x value) y 0 ≤ most
    go (yes q) = rw (q, get_or-set_same table x value 0 l) h
    go (no n) = rw (get_or-set_other table x y value 0 n) (all y)

-- a cart put in a zone's set joins that set alone
joins_stored : (left : List ℕ) (z c more : ℕ) → z < length left → With (get_or left z 0) c more → Joins left (set left z more) z c
joins_stored left z c more l with y d = go (ℕ_discrete y z)
  where
    go : Dec (y ≡ z) → (has (get_or (set left z more) y 0) d ≡ true) ↔ ((has (get_or left y 0) d ≡ true) ⊎ ((y ≡ z) × (d ≡ c)))
    go (yes q) = rw (q, get_or-set_same left z more 0 l) (
      λ e. elim (joined.0 (sym (with d) ∙ e)) [ inl old ↦ inl old | inr new ↦ inr (refl, new) ],
      λ e. with d ∙ joined.1 (elim e [ inl old ↦ inl old | inr new ↦ inr new.1 ]),
    )
      where
        joined : (has (get_or left z 0) d || eqb d c ≡ true) ↔ ((has (get_or left z 0) d ≡ true) ⊎ (d ≡ c))
        joined = or_says _ _ Iff.rfl (eqb_says d c)
    go (no n) = rw (get_or-set_other left z y more 0 n) (λ e. inl e, λ e. elim e [ inl old ↦ old | inr new ↦ absurd (n new.0) ])

pub joined : (left : List ℕ) (z c more : ℕ) → z < 24 → length left ≡ 24 → With (get_or left z 0) c more
    → Joins left (set left z more) z c × (length (set left z more) ≡ 24)
joined left z c more l sized with = (joins_stored left z c more (omega arith) with, length-set left z more ∙ sized)
