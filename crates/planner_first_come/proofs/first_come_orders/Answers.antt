-- Once all carts are put, the sets stand for first come.
use mathlib.Core.Path.{◌≡◌}
use native.Mathlib.Omega.{arith}
use Rattle.planner_first_come.proofs.Orders.{put_stands}
use Rattle.planner_first_come.proofs.first_come_orders.Goals as goal

pub returns : goal.returns
returns c =
    let ends : c.loop-c.c ≡ c.args.m = omega arith in
    λ n v. put_stands n _ _ v c.requires.1 c.ranks-ranked.ensures (rw ends at c.loop-c.invariant)
