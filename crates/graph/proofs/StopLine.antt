-- With the stop line set as a zone ahead of the first, the published graph has a cycle exactly where not all carts come out, which is where the
-- moves, stop line and all, have a cycle.
use Prim.Native.Nat.{ℕ, ◌<◌}
use mathlib.Core.Logic.{◌↔◌}
use mathlib.Core.List.{List, []}
use lib.ListN.{length, get_or}
use Rattle.moves.specs.System.{System, start}
use Rattle.moves.specs.inner.Runs.{AllComeOut}
use Rattle.moves.specs.Cycles.{Cycle}
use Rattle.moves.proofs.Cycles.{locked_iff_cycle}
use Rattle.routes.specs.inner.Lists.{Named}
use Rattle.routes.specs.Lanes.{next_in_front}
use Rattle.routes.specs.Moves.{system}
use Rattle.routes.specs.Plans.{plan}
use Rattle.routes.specs.inner.Plans.{Complete}
use Rattle.routes.proofs.Moves.{meetable}
use Rattle.routes.proofs.Plans.{plan_visitors}
use Rattle.graph.specs.Graph.{Cyclic}
use Rattle.graph.specs.StopLine.{lined_routes, lined_lists, with_stop_line}
use Rattle.graph.proofs.Agrees as plain
use Rattle.graph.proofs.Lined.{lined_complete, lined_out}

module _ (lanes zones : ℕ) (lane : ℕ → ℕ) (routes lists : List (List ℕ)) (full : Complete routes lists)
    (zone_below : (c z : ℕ) → Named (get_or routes c []) z → z < zones)
    (lane_below : (c : ℕ) → 0 < length (get_or routes c []) → lane c < lanes) where
  -- the plan's moves
  abbrev S : System
  S = system (plan (next_in_front lane routes) routes lists)

  -- the published graph with the stop lines has a cycle
  abbrev CyclicLined : Type 0
  CyclicLined = Cyclic (with_stop_line lanes zones lane routes lists)

  -- not all come out exactly where it has
  pub graph_locked : CyclicLined ↔ (¬ (AllComeOut S (start S)))
  unfolding with_stop_line
  graph_locked =
      let agrees =
      plain.graph_locked (lined_routes zones lane routes) (lined_lists lanes zones lane routes lists)
      (lined_complete lanes zones lane routes lists full zone_below lane_below) in
      let same = lined_out lanes zones lane routes lists full zone_below lane_below in
      (λ z all. agrees.0 z (same.0 all), λ locked. agrees.1 (λ all. locked (same.1 all)))

  -- and all come out exactly where it has none
  pub graph_accepts : (¬ CyclicLined) ↔ AllComeOut S (start S)
  unfolding with_stop_line
  graph_accepts =
      let agrees =
      plain.graph_accepts (lined_routes zones lane routes) (lined_lists lanes zones lane routes lists)
      (lined_complete lanes zones lane routes lists full zone_below lane_below) in
      let same = lined_out lanes zones lane routes lists full zone_below lane_below in
      (λ none. same.1 (agrees.0 none), λ all. agrees.1 (same.0 all))

  pub graph_agrees : CyclicLined ↔ Cycle S
  graph_agrees =
      let meet = meetable (plan (next_in_front lane routes) routes lists) (plan_visitors (next_in_front lane routes) routes lists full) in
      (λ z. (locked_iff_cycle S meet).0 (graph_locked.0 z), λ z. graph_locked.1 ((locked_iff_cycle S meet).1 z))
