-- Document 01's plans A and B, whose graphs have no cycle and a cycle; plan L, whose graph has one through a stop line; and document 01's three one-step
-- carts in a circle, where graph and moves differ.
use Prim.Native.Nat.{ℕ, zero, suc, ◌≤◌, ◌<◌}
use mathlib.Core.Path.{◌≡◌, refl, sym, ◌∙◌}
use mathlib.Core.Bool.{◌&&◌, ◌||◌}
use mathlib.Core.List.{List, [], ◌∷◌}
use native.Mathlib.Omega.{arith}
use lib.ListN.{length, get_or}
use lib.Dec.{eqb, lit≤}
use Rattle.words.specs.Lists.{any_below}
use Rattle.moves.specs.System.{start}
use Rattle.moves.specs.Search.{lowest}
use Rattle.moves.specs.Moves.{is_permitted}
use Rattle.moves.specs.Runs.{greedy, end}
use Rattle.moves.specs.inner.Runs.{AllComeOut}
use Rattle.moves.specs.Records.{is_closed}
use Rattle.moves.specs.inner.Records.{Meetable}
use Rattle.moves.specs.Cycles.{Cycle}
use Rattle.moves.proofs.Runs.{start_in_range}
use Rattle.moves.proofs.Out.{end_out}
use Rattle.moves.proofs.Records.{closed_says}
use Rattle.moves.proofs.Cycles.{locked_iff_cycle}
use Rattle.routes.specs.Lists.{place_of}
use Rattle.routes.specs.inner.Lists.{Named}
use Rattle.routes.specs.Crossing.{Crossing, steps}
use Rattle.routes.specs.Moves.{system}
use Rattle.routes.proofs.Examples.{routes_s, lists_a, lists_b, A, B, complete_A, complete_B, out_A, locked_B, routes_l, lists_l, lane_l, complete_L, locked_L}
use Rattle.graph.specs.inner.Graph.{Vertex}
use Rattle.graph.specs.Graph.{Way, direct, onward, Cyclic}
use Rattle.graph.specs.StopLine.{with_stop_line}
use Rattle.graph.proofs.Moves.{edge_vertices}
use Rattle.graph.proofs.Agrees.{graph_locked, graph_accepts}
use Rattle.graph.proofs.StopLine as lined

graph_A : ¬ (Cyclic A)
graph_A = (graph_accepts routes_s lists_a complete_A).1 out_A

graph_B : Cyclic B
graph_B = (graph_locked routes_s lists_b complete_B).1 locked_B

-- ---- the stop lines of plan L are zones 2 and 3

zone_L : (c z : ℕ) → Named (get_or routes_l c []) z → z < 2
zone_L zero z (zero, _, at) = omega arith
zone_L (suc zero) z (zero, _, at) = omega arith
zone_L (suc (suc zero)) z (zero, _, at) = omega arith
zone_L (suc (suc zero)) z (suc zero, _, at) = omega arith
zone_L zero z (suc j, h, _) = absurd (omega arith)
zone_L (suc zero) z (suc j, h, _) = absurd (omega arith)
zone_L (suc (suc zero)) z (suc (suc j), h, _) = absurd (omega arith)
zone_L (suc (suc (suc c))) z (j, h, _) = absurd (omega arith)

lane_L : (c : ℕ) → 0 < length (get_or routes_l c []) → lane_l c < 2
lane_L zero h = omega arith
lane_L (suc zero) h = omega arith
lane_L (suc (suc zero)) h = omega arith
lane_L (suc (suc (suc c))) h = absurd (omega arith)

graph_L : Cyclic (with_stop_line 2 2 lane_l routes_l lists_l)
graph_L = (lined.graph_locked 2 2 lane_l routes_l lists_l complete_L zone_L lane_L).1 locked_L

-- ---- "for three one-step carts put in a circle in one zone, section 3.1's graph has no vertex"

-- cart 0 before cart 1, cart 1 before cart 2, and cart 2 before cart 0
abbrev circle : Crossing
circle = record {
  routes = (0 ∷ []) ∷ (0 ∷ []) ∷ (0 ∷ []) ∷ [];
  front = λ c. 0;
  before = λ z d c. eqb z 0 && (eqb d 0 && eqb c 1 || eqb d 1 && eqb c 2 || eqb d 2 && eqb c 0);
}

circle_steps : (c : ℕ) → steps circle c ≤ 1
circle_steps zero = lit≤ tt
circle_steps (suc zero) = lit≤ tt
circle_steps (suc (suc zero)) = lit≤ tt
circle_steps (suc (suc (suc c))) = lit≤ tt

circle_no_vertex : (i j j' : ℕ) → ¬ (Vertex circle i j j')
circle_no_vertex i j j' (k, h, from, into) = omega (arith, circle_steps i)

circle_not_cyclic : ¬ (Cyclic circle)
circle_not_cyclic (i, j, j', way) = go way
  where
    go : {i' k k' : ℕ} → Way circle i j j' i' k k' → ⊥
    go (direct e) = circle_no_vertex i j j' (edge_vertices circle e).0
    go (onward w e) = go w

-- its moves have a cycle, so "The planner therefore tests with the moves."
circle_end : end (system circle) (start (system circle)) ≡ 0 ∷ 0 ∷ 0 ∷ []
unfolding end greedy lowest is_permitted any_below place_of
circle_end = refl

circle_locked : ¬ (AllComeOut (system circle) (start (system circle)))
circle_locked all =
    let S = system circle in
    let e : ◌≡◌ {A = List ℕ} (0 ∷ 0 ∷ 0 ∷ []) (2 ∷ 2 ∷ 2 ∷ []) = sym circle_end ∙ (end_out S (start S) (start_in_range S)).0 all in
    let z : ◌≡◌ {A = ℕ} 0 2 = cc in
    omega arith

circle_meetable : Meetable (system circle)
unfolding is_closed any_below place_of lowest
circle_meetable = (closed_says (system circle) (2 ∷ 2 ∷ 2 ∷ []) refl).0 refl

circle_cycle : Cycle (system circle)
circle_cycle = (locked_iff_cycle (system circle) circle_meetable).0 circle_locked
