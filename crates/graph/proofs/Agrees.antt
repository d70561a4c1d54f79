-- For complete plans the published graph has a cycle exactly where not all carts come out: the ring of the stuck carts is one.
use Prim.Native.Nat.{ℕ}
use mathlib.Core.Logic.{◌↔◌, ◌⊎◌, inl, inr}
use mathlib.Core.Path.{◌≡◌}
use mathlib.Core.Bool.{false, not-eq-not}
use mathlib.Core.List.{List}
use native.Mathlib.Omega.{arith}
use Rattle.moves.specs.System.{System, start}
use Rattle.moves.specs.Runs.{end}
use Rattle.moves.specs.inner.Runs.{AllComeOut, Stuck}
use Rattle.moves.specs.inner.Records.{Meetable}
use Rattle.moves.specs.Rings.{LowestNotOut, follow}
use Rattle.moves.specs.inner.Rings.{Points}
use Rattle.moves.proofs.Runs.{start_in_range}
use Rattle.moves.proofs.Ends.{end_reached, end_stuck}
use Rattle.moves.proofs.Out.{stuck_out, out_or_left}
use Rattle.moves.proofs.Rings.{follow_not_out, follow_waits, stuck_repeats}
use Rattle.routes.specs.Crossing.{Crossing}
use Rattle.routes.specs.Moves.{system}
use Rattle.routes.specs.Lanes.{lane_holds}
use Rattle.routes.specs.Plans.{plan, first_not_left}
use Rattle.routes.specs.inner.Plans.{Complete}
use Rattle.routes.proofs.Moves.{meetable}
use Rattle.routes.proofs.Plans.{plan_once, plan_visitors}
use Rattle.routes.proofs.Lanes.{holds_says}
use Rattle.routes.proofs.Pointing.{list_points}
use Rattle.graph.specs.Graph.{Cyclic}
use Rattle.graph.specs.inner.Graph.{Deadlock}
use Rattle.graph.proofs.Moves.{out_not_cyclic}
use Rattle.graph.proofs.Rings.{ring_cyclic}

-- nobody is in front of another: stop lines are zones here
module _ (routes lists : List (List ℕ)) (full : Complete routes lists) where
  abbrev X : Crossing
  X = plan (λ c. 0) routes lists

  abbrev S : System
  S = system X

  meet : Meetable S
  meet = meetable X (plan_visitors (λ c. 0) routes lists full)

  -- no lane holds a cart
  free : (s : List ℕ) (c : ℕ) → lane_holds X s c ≡ false
  free s c = (not-eq-not {b = false}).0 (λ t. let (_, (d, (f, _))) = (holds_says X s c).0 t in omega (arith, f.is))

  -- where no move is left and a cart is not out, its ring is a cycle of the graph
  stuck_cyclic : (s : List ℕ) → Stuck S s → (c : ℕ) × LowestNotOut S s c → Cyclic X
  stuck_cyclic s stuck (c, low) =
      let to = first_not_left (λ c. 0) routes lists s in
      let points : Points S s to = λ c held. list_points (λ c. 0) routes lists (plan_visitors (λ c. 0) routes lists full) s c (free s c) held in
      let r = stuck_repeats S meet s stuck to points c low.not_out in
      let d = follow to r.enter c in
      let in_ring = follow_not_out S meet s stuck to points c low.not_out r.enter in
      ring_cyclic routes lists (plan_visitors (λ c. 0) routes lists full) s d (follow_waits S meet s stuck to points d in_ring) r.turn r.again

  out_or_cyclic : AllComeOut S (start S) ⊎ Cyclic X
  out_or_cyclic = go (out_or_left S)
    where
      go : AllComeOut S (start S) ⊎ ((c : ℕ) × LowestNotOut S (end S (start S)) c) → AllComeOut S (start S) ⊎ Cyclic X
      go (inl all) = inl all
      go (inr left) = inr (stuck_cyclic (end S (start S)) (end_stuck S (start S) (start_in_range S)) left)

  -- not all come out exactly where the graph has a cycle
  pub graph_locked : Cyclic X ↔ (¬ (AllComeOut S (start S)))
  graph_locked = (λ z all. out_not_cyclic X (plan_once (λ c. 0) routes lists full) all z, λ locked. go locked out_or_cyclic)
    where
      go : ¬ (AllComeOut S (start S)) → AllComeOut S (start S) ⊎ Cyclic X → Cyclic X
      go locked (inl all) = absurd (locked all)
      go locked (inr z) = z

  -- and all come out exactly where it has none
  pub graph_accepts : (¬ (Cyclic X)) ↔ AllComeOut S (start S)
  graph_accepts = (λ none. go none out_or_cyclic, out_not_cyclic X (plan_once (λ c. 0) routes lists full))
    where
      go : ¬ (Cyclic X) → AllComeOut S (start S) ⊎ Cyclic X → AllComeOut S (start S)
      go none (inl all) = all
      go none (inr z) = absurd (none z)

  -- document 001, theorem 3.1: "H' is cyclic if and only if G' has a deadlock."
  pub graph_deadlock : Cyclic X ↔ Deadlock S
  graph_deadlock = (
    λ z.
        let reached = end_reached S (start S) in
        (end S (start S), reached, end_stuck S (start S) (start_in_range S), λ out. graph_locked.0 z (rw out at reached)),
    λ (s, reached, stuck, not_out). graph_locked.1 (λ all. not_out (stuck_out S (start S) s all reached stuck)),
  )
