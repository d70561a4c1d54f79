-- The lane's hold is one more.
use Prim.Native.Nat.{◌≤◌}
use mathlib.Core.Path.{sym}
use native.Mathlib.Omega.{arith}
use Rattle.sets.proofs.Counting.{count_most}
use Rattle.judge_entering.proofs.Holding.{front_16}
use Rattle.moving_asking.proofs.Bit.{bit_is, bit_most}
use Rattle.moving_asking.proofs.carts_ahead.Goals as goal

pub not_gone-requires : goal.not_gone-requires
not_gone-requires c = c.requires

pub lane_holds-requires : goal.lane_holds-requires
lane_holds-requires c = (c.requires.cart, front_16 _ _ c.args.ground.now.lanes_are _ c.requires.cart)

pub overflow_add-result : goal.overflow_add-result
overflow_add-result c =
    let few : c.not_gone.result ≤ 16 = rw c.not_gone.ensures (count_most 16 _) in
    record { fits = omega (arith, few, c.from.ensures, bit_most c.lane_holds.result) }

pub returns : goal.returns
returns c = rw (sym (c.lane_holds.ensures c.args.ground.now.sheet.now c.args.ground.now.ahead.now c.args.ground.now.lanes_are))
    (omega (arith, c.not_gone.ensures, c.from.ensures, bit_is c.lane_holds.result))
