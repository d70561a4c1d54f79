-- The loop keeps the part of the chain that is written: carts that are held.
use Prim.Native.Nat.{◌-◌}
use Rattle.routes.specs.Moves.{system}
use Rattle.sheet_table.specs.inner.Parts as parts
use Rattle.crossing.specs.inner.Tables.{crossing_of}
use Rattle.judge_ring.specs.inner.Tables.{wanted_in, point_of}
use Rattle.moving_why.proofs.SoFar.{SoFar}
use Rattle.moving_why.proofs.chain_from.Given as goal

abbrev pub invariant-loop-cart : goal.invariant-loop-cart
invariant-loop-cart l = SoFar (system (crossing_of l.ground.sheet.now l.ground.ahead.now)) l.at
    (point_of l.ground.sheet.now l.orders.count l.orders.list l.at l.left)
    (wanted_in (parts.steps l.ground.sheet.now) (parts.zone l.ground.sheet.now) l.at) l.asked l.cart l.zone l.n l.c

abbrev pub decreases-loop-cart : goal.decreases-loop-cart
decreases-loop-cart l = 16 - l.n
