-- The lane says whether the cart in front comes before the list.
use Prim.Native.Nat.{ℕ, zero, suc, ◌-◌, ◌<◌}
use mathlib.Core.Path.{◌≡◌, ap, sym, ◌∙◌}
use mathlib.Core.List.{[]}
use native.Mathlib.Omega.{arith}
use Rattle.std.proofs.Common.{Some, rules}
use Rattle.judge_entering.specs.inner.Lanes.{front_at, cart_in_front}
use Rattle.judge_entering.proofs.Holding.{front_told, front_16, held_front}
use Rattle.judge_ring.proofs.points_to.Goals as goal

in_front : (f : ℕ) → 0 < f → cart_in_front f ≡ Some (f - 1)
in_front zero some = absurd (omega arith)
in_front (suc d) some = ap Some {x = d} (omega arith)

pub lane_holds-requires : goal.lane_holds-requires
lane_holds-requires c = (c.requires.1, front_16 _ _ c.args.ground.now.lanes_are _ c.requires.1)

pub unwrap-requires : goal.unwrap-requires
unwrap-requires c = let held = sym (c.lane_holds.ensures _ [] c.args.ground.now.lanes_are) ∙ c.if-lane_holds.true in
    rw (c.front.ensures, in_front _ (held_front _ _ c.args.ground.now.lanes_are _ c.requires.1 [] c.args.at.now held)) (search rules)

pub returns-then-lane_holds : goal.returns-then-lane_holds
returns-then-lane_holds c =
    let held = sym (c.lane_holds.ensures _ [] c.args.ground.now.lanes_are) ∙ c.if-lane_holds.true in
    let front = in_front _ (held_front _ _ c.args.ground.now.lanes_are _ c.requires.1 [] c.args.at.now held) in
    let same : c.unwrap.result ≡ front_at c.args.ground.now.lanes c.args.c - 1 = cc in (
      rw (held, ← front_told _ _ c.args.ground.now.lanes_are _ c.requires.1) same,
      omega (arith, same, front_16 _ _ c.args.ground.now.lanes_are _ c.requires.1),
    )
