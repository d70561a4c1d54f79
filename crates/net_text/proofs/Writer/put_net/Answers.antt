use mathlib.Core.Path.{◌≡◌}
use native.Mathlib.Omega.{arith}
use Rattle.words.specs.Lists.{each}
use Rattle.net_firing.specs.inner.Net.{crossing_in}
use Rattle.net_text.specs.Lines.{cart_lines}
use Rattle.net_text.proofs.LineLaws.{wrote_none, wrote_turn}
use Rattle.net_text.proofs.TableLines.{net_is, carts_few}
use Rattle.net_text.proofs.Writer.put_net.Goals as goal

pub loop-c-init : goal.loop-c-init
unfolding each
loop-c-init c = wrote_none

pub put_cart-requires : goal.put_cart-requires
put_cart-requires c = let net = c.args.net.now in
    let most = carts_few net.sheet.now net.ahead.now net.sound c.loop-c.c in
    (c.loop-c-test.true, omega (arith, c.requires, c.loop-c.invariant.counted, c.loop-c-test.true))

pub loop-c-preserved : goal.loop-c-preserved
loop-c-preserved c = wrote_turn (cart_lines (crossing_in c.args.net.now)) c.loop-c.c c.loop-c.invariant c.put_cart.ensures

pub returns : goal.returns
returns c = let net = c.args.net.now in
    let all : c.loop-c.c ≡ 16 = omega arith in
    let most = carts_few net.sheet.now net.ahead.now net.sound c.loop-c.c in
    let wrote = c.loop-c.invariant in
    record {
      few = omega (arith, c.requires, wrote.counted);
      wrote = rw (net_is net.sheet.now net.ahead.now) (rw all at wrote);
    }
