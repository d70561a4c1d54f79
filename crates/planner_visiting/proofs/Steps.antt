-- The table of places tells the step of a cart in a zone.
use Prim.Native.Nat.{ℕ, ◌+◌, ◌*◌, ◌<◌}
use mathlib.Core.Path.{◌≡◌, ap, ◌∙◌, sym}
use mathlib.Core.List.{List, []}
use native.Mathlib.Omega.{arith}
use lib.ListN.{get_or}
use Rattle.words.specs.Lists.{entries}
use Rattle.routes.specs.Lists.{place_of}
use Rattle.routes.specs.inner.Lists.{Named}
use Rattle.routes.specs.Crossing.{Crossing, route, steps, step_in}
use Rattle.routes.specs.inner.Crossing.{Visits}
use Rattle.routes.proofs.Places.{place_below, place_names}
use Rattle.crossing.specs.inner.Tables.{crossing_by}
use Rattle.crossing.specs.Plans.{route_of}
use Rattle.crossing.proofs.Tables.{step_below, steps_is, zone_is}
use Rattle.planner_visiting.specs.inner.Visiting.{Places}

module _ (step_table zone_table visit : List ℕ) (places : Places step_table zone_table visit) where
  -- a crossing with these routes, whatever its lanes and orders
  abbrev X : Crossing
  X = crossing_by step_table zone_table [] []

  step_place : (c z : ℕ) → Visits X c z → get_or visit (16 * z + c) 0 ≡ 8 * c + step_in X c z
  step_place c z v =
      let h : step_in X c z < steps X c = place_below (route X c) z v in
      let l : c < 16 = step_below step_table zone_table [] [] c (step_in X c z) h in
      let there : get_or zone_table (8 * c + step_in X c z) 0 ≡ z
      = sym (zone_is step_table zone_table [] [] c l (step_in X c z) h) ∙ place_names (route X c) z v in
      ap (λ (y : ℕ). get_or visit (16 * y + c) 0) (sym there) ∙ places.step_at c (step_in X c z) l (omega (arith, steps_is step_table zone_table [] [] c l))

  pub visit_place : (c z : ℕ) → Named (get_or (entries 16 0 (route_of step_table zone_table)) c []) z
      → get_or visit (16 * z + c) 0 ≡ 8 * c + place_of (get_or (entries 16 0 (route_of step_table zone_table)) c []) z
  unfolding crossing_by
  visit_place = step_place
