-- A move leaves the zone that its cart was in, and no other; so its cart joins that zone's set alone.
use Prim.Native.Nat.{ℕ, suc, ◌<◌}
use mathlib.Core.Path.{◌≡◌, sym, ap, ◌∙◌}
use mathlib.Core.Logic.{◌⊎◌, inl, inr}
use mathlib.Core.Bool.{true}
use mathlib.Core.List.{List}
use native.Mathlib.Nat.{le_trans}
use native.Mathlib.Omega.{arith}
use lib.ListN.{length, get_or}
use Rattle.sets.specs.inner.Member.{has}
use Rattle.moves.specs.System.{pos}
use Rattle.moves.specs.Moves.{moved}
use Rattle.moves.proofs.Positions.{moved_same, moved_counts, moved_up}
use Rattle.routes.specs.Crossing.{Crossing, steps, zone, HasLeft}
use Rattle.crossing.specs.inner.Tables.{LeftSet}
use Rattle.judge_one_move.specs.inner.Running.{Joins}

module _ (X : Crossing) (s : List ℕ) (c : ℕ) where
  left_kept : (d z : ℕ) → HasLeft X s d z → HasLeft X (moved s c) d z
  left_kept d z h = record { step = h.step; is_step = h.is_step; there = h.there; past = le_trans h.past (moved_up s c d) }

  -- cart c was in zone z, by its step j
  abbrev pub WasIn : ℕ → ℕ → Type 0
  WasIn z j = (j < steps X c) × (zone X c j ≡ z) × (suc j ≡ pos s c)

  left_new : c < length s → (z j : ℕ) → WasIn z j → HasLeft X (moved s c) c z
  left_new l z j (is_step, there, at) = record { step = j; is_step = is_step; there = there; past = omega (arith, moved_same s c l) }

  pub left_cases : (d z : ℕ) → HasLeft X (moved s c) d z → HasLeft X s d z ⊎ ((d ≡ c) × ((j : ℕ) × WasIn z j))
  left_cases d z h = go (moved_counts s c d (suc h.step) h.past)
    where
      go : (suc h.step < pos s d) ⊎ ((d ≡ c) × (suc h.step ≡ pos s c)) → HasLeft X s d z ⊎ ((d ≡ c) × ((j : ℕ) × WasIn z j))
      go (inl before) = inl (record { step = h.step; is_step = h.is_step; there = h.there; past = before })
      go (inr (cart, at)) = inr (cart, (h.step, (rw cart at h.is_step, rw cart at h.there, at)))

  -- from the lane no zone is left
  pub none_left : pos s c ≡ 0 → (d z : ℕ) → HasLeft X (moved s c) d z → HasLeft X s d z
  none_left lane d z h = elim (left_cases d z h) [ inl before ↦ before | inr (_, (_, (_, _, step))) ↦ absurd (omega (arith, step)) ]

  module _ (left : List ℕ) (left_is : (z : ℕ) → LeftSet X s z (get_or left z 0)) where
    pub left_same : pos s c ≡ 0 → (z : ℕ) → LeftSet X (moved s c) z (get_or left z 0)
    left_same lane z d = (λ e. left_kept d z ((left_is z d).0 e), λ h. (left_is z d).1 (none_left lane d z h))

    -- from zone y, whose set cart c joins
    pub left_joined : c < length s → (y j : ℕ) → WasIn y j → (more : List ℕ) → Joins left more y c → (z : ℕ) → LeftSet X (moved s c) z (get_or more z 0)
    left_joined l y j was more joins z d = (λ e. enters ((joins z d).0 e), λ h. leaves (left_cases d z h))
      where
        enters : (has (get_or left z 0) d ≡ true) ⊎ ((z ≡ y) × (d ≡ c)) → HasLeft X (moved s c) d z
        enters (inl old) = left_kept d z ((left_is z d).0 old)
        enters (inr (zone-y, cart)) = rw (zone-y, cart) (left_new l y j was)

        leaves : HasLeft X s d z ⊎ ((d ≡ c) × ((k : ℕ) × WasIn z k)) → has (get_or more z 0) d ≡ true
        leaves (inl old) = (joins z d).1 (inl ((left_is z d).1 old))
        leaves (inr (cart, (k, (_, there, step)))) = (joins z d).1 (inr (sym there ∙ ap (zone X c) (omega (arith, was.2)) ∙ was.1, cart))
