-- The table of fronts: who is next in front is a lower cart, both have steps, and the lane holds a cart until that one has made its first move.
use Prim.Native.Nat.{ℕ, zero, suc, ◌≤◌, ◌<◌}
use mathlib.Core.Path.{◌≡◌, refl, sym, ◌∙◌}
use mathlib.Core.Logic.{◌↔◌}
use mathlib.Core.Bool.{false}
use mathlib.Core.List.{List, []}
use native.Mathlib.Decide.{dec_lt}
use native.Mathlib.Omega.{arith}
use lib.ListN.{get_or, get_or-eq_default}
use lib.Dec.{ltb}
use borrow.Author.Tests.{lt-ltb, le-ltb}
use Rattle.words.specs.Lists.{pick, entries}
use Rattle.words.proofs.Entries.{length_entries, at_entry}
use Rattle.moves.specs.System.{pos}
use Rattle.routes.specs.Crossing.{Crossing}
use Rattle.routes.specs.Lanes.{next_in_front, lane_holds}
use Rattle.routes.proofs.Lanes.{Front, front_says, next_is}
use Rattle.crossing.specs.inner.Tables.{fronts_by, crossing_by, FrontGone}
use Rattle.crossing.specs.Plans.{route_of}
use Rattle.crossing.proofs.Tables.{steps_is}
use Rattle.crossing.proofs.Permitted.{free_says}

module _ (step_table zone_table lane_table : List ℕ) where
  abbrev fronts : List ℕ
  fronts = fronts_by step_table zone_table lane_table

  abbrev next : ℕ → ℕ
  next = next_in_front (λ c. get_or lane_table c 0) (entries 16 0 (route_of step_table zone_table))

  abbrev rule : ℕ → ℕ
  rule c = pick (ltb 0 (get_or step_table c 0)) (next c) 0

  entry : (c : ℕ) → c < 16 → get_or fronts c 0 ≡ rule c
  unfolding fronts_by
  entry = at_entry 16 rule

  pub fronts_are : (c : ℕ) → c < 16 → 0 < get_or step_table c 0 → get_or fronts c 0 ≡ next c
  fronts_are c l some = entry c l ∙ rw (lt-ltb 0 (get_or step_table c 0) some)

  pub fronts_absent : (c : ℕ) → c < 16 → ¬ (0 < get_or step_table c 0) → get_or fronts c 0 ≡ 0
  fronts_absent c l none = entry c l ∙ rw (le-ltb 0 (get_or step_table c 0) (omega arith))

  fronts_past : (c : ℕ) → ¬ (c < 16) → get_or fronts c 0 ≡ 0
  unfolding fronts_by
  fronts_past c past = get_or-eq_default fronts 0 {n = c} (omega (arith, length_entries 16 0 rule))

  module _ (ahead_table : List ℕ) where
    abbrev X : Crossing
    X = crossing_by step_table zone_table fronts ahead_table

    -- whoever is in front by the table is lower, and is in front in the crossing
    pub front_lower : (d c : ℕ) → get_or fronts c 0 ≡ suc d → (d < c) × Front X d c
    unfolding crossing_by
    front_lower d c is = go (dec_lt c 16)
      where
        here : (l : c < 16) → Dec (0 < get_or step_table c 0) → (d < c) × Front X d c
        here l (yes some) =
            let (below, (there, _)) = next_is (λ c. get_or lane_table c 0) X.routes d c (sym (fronts_are c l some) ∙ is) in
            (below, record { is = is; there = there; here = omega (arith, some, steps_is step_table zone_table fronts ahead_table c l) })
        here l (no none) = absurd (omega (arith, is, fronts_absent c l none))

        go : Dec (c < 16) → (d < c) × Front X d c
        go (yes l) = here l (dec_lt 0 (get_or step_table c 0))
        go (no past) = absurd (omega (arith, is, fronts_past c past))

    -- the lane holds a cart that stands at the line until the cart in front has gone
    pub gone_free : (s : List ℕ) (c : ℕ) → (lane_holds X s c ≡ false) ↔ (pos s c ≡ 0 → FrontGone (get_or fronts c 0) s)
    unfolding crossing_by
    gone_free s c = (
      λ free first d is. (free_says X s c).0 free first d ((front_says X d c).1 (front_lower d c is).1),
      λ gone. (free_says X s c).1 (λ first d f. gone first d ((front_says X d c).0 f).is),
    )

  pub fronts_16 : (c : ℕ) → c < 16 → get_or fronts c 0 ≤ 16
  fronts_16 c l = go (get_or fronts c 0) refl
    where
      go : (f : ℕ) → get_or fronts c 0 ≡ f → f ≤ 16
      go zero is = omega arith
      go (suc d) is = omega (arith, l, (front_lower [] d c is).0)
