-- What the crossing of sets behind says of a cart's step is what the tables hold for it.
use Prim.Native.Nat.{ℕ, ◌+◌, ◌*◌, ◌<◌}
use mathlib.Core.Path.{◌≡◌, ap, ◌∙◌, refl}
use mathlib.Core.List.{List}
use lib.ListN.{length, get_or, replicate}
use Rattle.words.specs.Lists.{entries}
use Rattle.words.proofs.Entries.{entries_is}
use Rattle.sets.specs.inner.Member.{has}
use Rattle.moves.specs.System.{start}
use Rattle.routes.specs.inner.Lists.{Distinct}
use Rattle.routes.specs.Crossing.{Crossing, route, steps, zone}
use Rattle.routes.specs.Moves.{moves_of, system}
use Rattle.routes.specs.inner.Orders.{NamesOnce}
use Rattle.routes.proofs.Moves.{carts_are, out_are}
use Rattle.sheet_table.specs.inner.Parts as parts
use Rattle.crossing.specs.inner.Tables.{crossing_by, crossing_of, fronts_of}
use Rattle.crossing.proofs.Tables.{routes_16, step_below, route_is, steps_is, zone_is, before_is}
use Rattle.planner_visiting.specs.inner.Visiting.{RoutesOnce}
use Rattle.planner_spare.specs.inner.Behind.{crossing_behind}
use Rattle.sheet_table.specs.declared.Table.{Table}

module _ (sheet : Table) (behind : List ℕ) where
  abbrev step_table : List ℕ
  step_table = parts.steps sheet

  abbrev zone_table : List ℕ
  zone_table = parts.zone sheet

  abbrev X : Crossing
  X = crossing_behind sheet behind

  pub behind_16 : length X.routes ≡ 16
  unfolding crossing_by crossing_behind
  behind_16 = routes_16 step_table zone_table (fronts_of sheet) behind

  pub behind_below : (c j : ℕ) → j < steps X c → c < 16
  unfolding crossing_by crossing_behind
  behind_below = step_below step_table zone_table (fronts_of sheet) behind

  pub behind_steps : (c : ℕ) → c < 16 → steps X c ≡ get_or step_table c 0
  unfolding crossing_by crossing_behind
  behind_steps = steps_is step_table zone_table (fronts_of sheet) behind

  pub behind_zone : (c : ℕ) → c < 16 → (j : ℕ) → j < steps X c → zone X c j ≡ get_or zone_table (8 * c + j) 0
  unfolding crossing_by crossing_behind
  behind_zone = zone_is step_table zone_table (fronts_of sheet) behind

  pub behind_start : start (system X) ≡ replicate 16 0
  behind_start = ap (λ (n : ℕ). replicate n 0) (carts_are X ∙ behind_16)

  pub behind_out : (system X).out ≡ entries 16 0 (λ c. moves_of (get_or step_table c 0))
  behind_out = entries_is (system X).out 16 _ (carts_are X ∙ behind_16) (λ c l. out_are X c ∙ ap moves_of (behind_steps c l))

  module _ (routed : RoutesOnce step_table zone_table) where
    once : NamesOnce (crossing_of sheet behind)
    once c e k h =
        let l = step_below step_table zone_table (fronts_of sheet) behind c k h in
        let distinct : Distinct (route (crossing_of sheet behind) c) = rw (route_is step_table zone_table (fronts_of sheet) behind c l) (routed.once c l) in
        distinct e k h

    -- the set behind step j holds whom c goes before in the step's zone
    pub behind_before : (c j d : ℕ) → j < steps X c → X.before (zone X c j) c d ≡ has (get_or behind (8 * c + j) 0) d
    unfolding crossing_by crossing_behind
    behind_before c j d h =
        before_is step_table zone_table (fronts_of sheet) behind c (behind_below c j h) once j d (zone X c j) h refl
