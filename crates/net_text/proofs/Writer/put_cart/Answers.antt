use Prim.Native.Nat.{◌+◌}
use mathlib.Core.Path.{◌≡◌}
use native.Mathlib.Omega.{arith}
use Rattle.words.specs.Lists.{each}
use Rattle.net_firing.specs.inner.Net.{crossing_in}
use Rattle.net_text.specs.Lines.{position_lines}
use Rattle.net_text.proofs.LineLaws.{wrote_none, wrote_turn}
use Rattle.net_text.proofs.TableLines.{count_is, few, cart_none, cart_is, positions_few}
use Rattle.net_text.proofs.Writer.put_cart.Goals as goal

pub overflow_add-p-end : goal.overflow_add-p-end
overflow_add-p-end c = omega (arith, c.steps-steps.ensures, few _ _ c.args.c c.requires.0 c.args.net.now.sound)

pub loop-p-init : goal.loop-p-init
unfolding each
loop-p-init c = wrote_none

pub put_position-requires : goal.put_position-requires
put_position-requires c = let net = c.args.net.now in
    let n = c.steps-steps in
    let most = positions_few net.sheet.now net.ahead.now c.args.c c.loop-p.p in
    let count = count_is net.sheet.now net.ahead.now c.args.c c.requires.0 in
    let below = c.loop-p-test.true in (
      record { cart_16 = c.requires.0; some = omega (arith, n.ensures, c.if-steps-gt0.true); most = omega (arith, n.ensures) },
      omega (arith, c.requires.1, c.loop-p.invariant.counted, n.ensures, few _ _ c.args.c c.requires.0 net.sound),
    )

pub loop-p-preserved : goal.loop-p-preserved
loop-p-preserved c = wrote_turn (position_lines (crossing_in c.args.net.now) c.args.c) c.loop-p.p c.loop-p.invariant c.put_position.ensures

pub returns-after-loop-p : goal.returns-after-loop-p
returns-after-loop-p c = let net = c.args.net.now in
    let n = c.steps-steps in
    let all : c.loop-p.p ≡ n.result + 2 = omega arith in
    rw (cart_is net.sheet.now net.ahead.now c.args.c c.requires.0 n.result n.ensures c.if-steps-gt0.true) (rw all at c.loop-p.invariant)

pub returns-else-steps-gt0 : goal.returns-else-steps-gt0
returns-else-steps-gt0 c = let net = c.args.net.now in
    rw (cart_none net.sheet.now net.ahead.now c.args.c c.requires.0 (omega (arith, c.if-steps-gt0.false, c.steps-steps.ensures))) wrote_none
