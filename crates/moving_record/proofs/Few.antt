-- A record that is reached counts at most 144 moves: 9 of each of 16 carts.
use Prim.Native.Nat.{ℕ, ◌≤◌}
use mathlib.Core.Path.{◌≡◌}
use mathlib.Core.Bool.{true}
use mathlib.Core.List.{List}
use native.Mathlib.Omega.{arith}
use Rattle.moves.specs.System.{pos}
use Rattle.moves.proofs.Positions.{sum_most}
use Rattle.routes.specs.Crossing.{steps}
use Rattle.routes.specs.Moves.{system}
use Rattle.routes.proofs.Moves.{moves_most, out_are}
use Rattle.crossing.specs.inner.Tables.{fronts_by, crossing_by}
use Rattle.crossing.proofs.Tables.{carts_16}
use Rattle.moving_record.specs.Record.{is_reached}
use Rattle.moving_record.specs.inner.Tables.{Orderly}
use Rattle.moving_record.specs.declared.Record.{Record}
use Rattle.moving_record.proofs.Reached.{reached_says}

pub reached_few : (step_table zone_table lane_table ahead_table : List ℕ) → Orderly step_table zone_table lane_table ahead_table → (lent : Record)
    → is_reached (system (crossing_by step_table zone_table (fronts_by step_table zone_table lane_table) ahead_table)) lent ≡ true → lent.made ≤ 144
reached_few step_table zone_table lane_table ahead_table orderly lent e =
    let fronts = fronts_by step_table zone_table lane_table in
    let X = crossing_by step_table zone_table fronts ahead_table in
    let st = (reached_says (system X) lent).0 e in
    let nine : (c : ℕ) → pos lent.position c ≤ 9 = λ c. omega (arith, st.range.within c, out_are X c, moves_most (steps X c), orderly.steps_most c) in
    omega (arith, st.counted, sum_most lent.position 9 nine, st.range.sized, carts_16 step_table zone_table fronts ahead_table)
