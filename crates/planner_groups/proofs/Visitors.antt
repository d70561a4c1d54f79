-- The table of who visits each zone tells whose routes name it.
use Prim.Native.Nat.{ℕ, ◌+◌, ◌*◌, ◌≤◌, ◌<◌}
use mathlib.Core.Path.{◌≡◌, refl, sym, ap, ◌∙◌}
use mathlib.Core.Bool.{false, ◌&&◌}
use mathlib.Core.List.{List, []}
use native.Mathlib.Decide.{dec_lt}
use native.Mathlib.Omega.{arith}
use lib.ListN.{get_or, get_or-eq_default}
use lib.Dec.{ltb, eqb}
use borrow.Author.Tests.{lt-ltb, le-ltb}
use Rattle.words.specs.Lists.{any_below, entries}
use Rattle.words.proofs.Any.{any_same}
use Rattle.words.proofs.Entries.{length_entries, get_d_entries, at_entry}
use Rattle.sets.specs.inner.Member.{has}
use Rattle.sets.specs.Counting.{set_below}
use Rattle.sets.proofs.Counting.{has_all}
use Rattle.words.proofs.Tables.{row_at, column_at}
use Rattle.routes.specs.Lists.{is_named}
use Rattle.routes.specs.Crossing.{steps, zone}
use Rattle.plan_lists.specs.inner.Sets.{names, Routes, who_visits}
use Rattle.sheet_table.specs.inner.Parts as parts
use Rattle.crossing.specs.Plans.{route_of}
use Rattle.crossing.specs.inner.Tables.{crossing_by}
use Rattle.crossing.proofs.Tables.{steps_is, zone_is}
use Rattle.removal.specs.Pairs.{Unplanned, visits}
use Rattle.planner_orders.specs.inner.Unplanned.{unplanned_of, unordered, SheetSized}
use Rattle.planner_groups.specs.inner.Starting.{visiting_at}
use Rattle.sheet_table.specs.declared.Table.{Table}

module _ (step_table zone_table : List ℕ) where
  abbrev routes : List (List ℕ)
  routes = entries 16 0 (route_of step_table zone_table)

  route_named : (d z : ℕ) → is_named (route_of step_table zone_table d) z ≡ names zone_table (get_or step_table d 0) d z
  route_named d z =
      ap (any_below (λ e. eqb (get_or (route_of step_table zone_table d) e 0) z)) (length_entries (get_or step_table d 0) 0 (λ j. get_or zone_table (8 * d + j) 0))
      ∙ any_same _ _ (get_or step_table d 0) (λ k l. ap (λ (y : ℕ). eqb y z) (at_entry (get_or step_table d 0) (λ j. get_or zone_table (8 * d + j) 0) k l))

  -- no cart past the 16 visits a zone
  pub none_past : (d z : ℕ) → 16 ≤ d → is_named (get_or routes d []) z ≡ false
  unfolding any_below
  none_past d z past = rw (get_or-eq_default routes [] {n = d} (omega (arith, length_entries 16 0 (route_of step_table zone_table))))

  pub visitors_says : (z : ℕ) → z < 24 → (d : ℕ) → has (get_or (who_visits step_table zone_table) z 0) d ≡ is_named (get_or routes d []) z
  unfolding who_visits
  visitors_says z l d =
      ap (λ (n : ℕ). has n d) (at_entry 24 (λ y. set_below 16 (λ i. names zone_table (get_or step_table i 0) i y)) z l)
      ∙ has_all 16 (λ i. names zone_table (get_or step_table i 0) i z) d
      ∙ go (dec_lt d 16)
    where
      go : Dec (d < 16) → (ltb d 16 && names zone_table (get_or step_table d 0) d z) ≡ is_named (get_or routes d []) z
      go (yes m) =
          let own : get_or routes d [] ≡ route_of step_table zone_table d = get_d_entries 16 0 (route_of step_table zone_table) d [] m ∙ ap
          (route_of step_table zone_table) (omega arith) in
          rw (lt-ltb d 16 m, own) (sym (route_named d z))
      go (no n) = let past : 16 ≤ d = omega (arith, n) in rw (le-ltb d 16 past) (sym (none_past d z past))

-- so do the visitors of the zone of a step
module _ (sheet : Table) (visitors : List ℕ) (sheet-routes : Routes (parts.steps sheet) (parts.zone sheet))
    (visitors_are : visitors ≡ who_visits (parts.steps sheet) (parts.zone sheet)) (zones carts : ℕ) (sized : SheetSized (unplanned_of sheet zones carts)) where
  abbrev U : Unplanned
  U = unplanned_of sheet zones carts

  abbrev step_part : List ℕ
  step_part = parts.steps sheet

  abbrev zone_part : List ℕ
  zone_part = parts.zone sheet

  pub visiting_says : (c j : ℕ) → j < steps (unordered U) c → (d : ℕ) → has (visiting_at sheet visitors (8 * c + j)) d ≡ visits U d (zone (unordered U) c j)
  unfolding crossing_by
  visiting_says c j h d =
      let cart : c < 16 = omega (arith, sized.able.cart_below c _ (j, h, refl), sized.carts_most) in
      let few : j < 8 = omega (arith, sized.ranged.steps_most c) in
      let below : j < get_or step_part c 0 = omega (arith, h, steps_is step_part zone_part [] [] c cart) in
      let there = zone_is step_part zone_part [] [] c cart j h in
      let known = sheet-routes.known c j below in
      rw (row_at c j few, column_at c j few, lt-ltb j (get_or step_part c 0) below, visitors_are, there)
      (visitors_says step_part zone_part (get_or zone_part (8 * c + j) 0) known d)
