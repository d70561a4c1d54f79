-- The carts that have left each zone: each has passed a step there, which is who visits the zones of the steps passed.
use Prim.Native.Nat.{ℕ, ◌+◌, ◌-◌, ◌*◌, ◌≤◌, ◌<◌}
use mathlib.Core.Path.{◌≡◌, sym, ◌∙◌}
use mathlib.Core.Logic.{◌↔◌}
use mathlib.Core.Bool.{true, false≢true}
use mathlib.Core.List.{List}
use native.Mathlib.Decide.{dec_lt}
use native.Mathlib.Omega.{arith}
use lib.ListN.{get_or, get_or-eq_default}
use Rattle.words.specs.Lists.{entries}
use Rattle.words.proofs.Entries.{length_entries, at_entry}
use Rattle.words.proofs.Tests.{eqb_says}
use Rattle.sets.specs.inner.Member.{has}
use Rattle.sets.specs.Counting.{set_below}
use Rattle.sets.proofs.Laws.{has_none, has_below}
use Rattle.sets.proofs.Counting.{has_set, set_fits}
use Rattle.moves.proofs.Search.{any_says}
use Rattle.routes.specs.Crossing.{Crossing, steps, HasLeft}
use Rattle.routes.proofs.Moves.{moves_most}
use Rattle.crossing.specs.inner.Tables.{fronts_by, crossing_by, LeftSet}
use Rattle.crossing.proofs.Tables.{step_below, steps_is, zone_is}
use Rattle.plan_lists.specs.inner.Sets.{Routes, names, who_visits}
use Rattle.moving_record.specs.inner.Tables.{NonePastOut, zones_left, Orderly}

module _ (step_table zone_table lane_table ahead_table : List ℕ) (orderly : Orderly step_table zone_table lane_table ahead_table) where
  abbrev fronts : List ℕ
  fronts = fronts_by step_table zone_table lane_table

  abbrev X : Crossing
  X = crossing_by step_table zone_table fronts ahead_table

  pub tables_routes : Routes step_table zone_table
  tables_routes = record { few = λ c. few c (dec_lt c 16); known = λ c j h. known c j h (dec_lt c 16) }
    where
      few : (c : ℕ) → Dec (c < 16) → get_or step_table c 0 ≤ 8
      few c (yes l) = omega (arith, orderly.steps_most c, steps_is step_table zone_table fronts ahead_table c l)
      few c (no n) = omega (arith, get_or-eq_default step_table 0 {n = c} (omega (arith, n, orderly.steps_16)))

      known : (c j : ℕ) → j < get_or step_table c 0 → Dec (c < 16) → get_or zone_table (8 * c + j) 0 < 24
      known c j h (yes l) =
          let inside : j < steps X c = omega (arith, steps_is step_table zone_table fronts ahead_table c l) in
          omega (arith, orderly.zone_below c j inside, zone_is step_table zone_table fronts ahead_table c l j inside)
      known c j h (no n) = absurd (omega (arith, get_or-eq_default step_table 0 {n = c} (omega (arith, n, orderly.steps_16))))

  module _ (at : List ℕ) (range : NonePastOut step_table at) where
    abbrev gone : ℕ → ℕ
    gone c = get_or (zones_left at) c 0

    gone_is : (c : ℕ) → c < 16 → gone c ≡ get_or at c 0 - 1
    gone_is c l = at_entry 16 (λ d. get_or at d 0 - 1) c l

    gone_few : (c : ℕ) → c < 16 → gone c ≤ steps X c
    gone_few c l = omega (arith, gone_is c l, range c l, moves_most (get_or step_table c 0), steps_is step_table zone_table fronts ahead_table c l)

    gone_none : (c : ℕ) → ¬ (c < 16) → gone c ≡ 0
    gone_none c n = get_or-eq_default (zones_left at) 0 {n = c} (omega (arith, n, length_entries 16 0 (λ d. get_or at d 0 - 1)))

    routes_gone : Routes (zones_left at) zone_table
    routes_gone = record { few = λ c. few c (dec_lt c 16); known = λ c j h. known c j h (dec_lt c 16) }
      where
        few : (c : ℕ) → Dec (c < 16) → gone c ≤ 8
        few c (yes l) = omega (arith, gone_few c l, orderly.steps_most c)
        few c (no n) = omega (arith, gone_none c n)

        known : (c j : ℕ) → j < gone c → Dec (c < 16) → get_or zone_table (8 * c + j) 0 < 24
        known c j h (yes l) =
            let inside : j < steps X c = omega (arith, gone_few c l) in
            omega (arith, orderly.zone_below c j inside, zone_is step_table zone_table fronts ahead_table c l j inside)
        known c j h (no n) = absurd (omega (arith, gone_none c n))

    pub gone_routes : (passed : List ℕ) → passed ≡ zones_left at → Routes passed zone_table
    gone_routes passed is = rw is routes_gone

    -- the first steps of cart d name zone z exactly where it has left it
    names_left : (d z : ℕ) → d < 16 → (names zone_table (gone d) d z ≡ true) ↔ HasLeft X at d z
    names_left d z l = (
      λ e.
          let (j, h, there) = says.0 e in
          let inside : j < steps X d = omega (arith, gone_few d l) in
          let here = zone_is step_table zone_table fronts ahead_table d l j inside in
          record { step = j; is_step = inside; there = here ∙ there; past = omega (arith, gone_is d l) },
      λ left.
          says.1 (
            left.step,
            omega (arith, gone_is d l, left.past),
            sym (zone_is step_table zone_table fronts ahead_table d l left.step left.is_step)
                ∙ left.there,
          ),
    )
      where
        says : (names zone_table (gone d) d z ≡ true) ↔ ((j : ℕ) × (j < gone d) × (get_or zone_table (8 * d + j) 0 ≡ z))
        says = any_says _ (gone d) (λ j. get_or zone_table (8 * d + j) 0 ≡ z) (λ j. eqb_says (get_or zone_table (8 * d + j) 0) z)

    abbrev rule : ℕ → ℕ
    rule z = set_below 16 λ d. names zone_table (gone d) d z

    pub left_sets : (z : ℕ) → LeftSet X at z (get_or (who_visits (zones_left at) zone_table) z 0)
    unfolding who_visits
    left_sets z d = go (dec_lt z 24)
      where
        inside : z < 24 → (has (rule z) d ≡ true) ↔ HasLeft X at d z
        inside l = (
          λ e. let m = has_below 16 (rule z) d (set_fits 16 (λ c. names zone_table (gone c) c z)) e in
              (names_left d z m).0 (sym (has_set 16 (λ c. names zone_table (gone c) c z) d m) ∙ e),
          λ left. let m = step_below step_table zone_table fronts ahead_table d left.step left.is_step in
              has_set 16 (λ c. names zone_table (gone c) c z) d m ∙ (names_left d z m).1 left,
        )

        go : Dec (z < 24) → (has (get_or (entries 24 0 rule) z 0) d ≡ true) ↔ HasLeft X at d z
        go (yes l) = rw (at_entry 24 rule z l) (inside l)
        go (no n) = rw (get_or-eq_default (entries 24 0 rule) 0 {n = z} (omega (arith, n, length_entries 24 0 rule))) (
          λ e. absurd (false≢true (sym (has_none d) ∙ e)),
          λ left. absurd (n (omega (arith, orderly.zone_below d left.step left.is_step, left.there))),
        )
