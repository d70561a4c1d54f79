-- The lines of the position alone, and then those with other carts, by whether a step is left.
use native.Mathlib.Omega.{arith}
use lib.Dec.{leb}
use Rattle.net_text.proofs.LineLaws.{wrote_then}
use Rattle.net_text.proofs.TableLines.{count_is, few, own_most, position_last, position_is}
use Rattle.net_text.proofs.Writer.put_position.Goals as goal

pub bounds-net-c : goal.bounds-net-c
bounds-net-c c = omega (arith, c.requires.0.cart_16, few _ _ c.args.c c.requires.0.cart_16 c.args.net.now.sound, c.steps-steps.ensures)

pub put_others-requires : goal.put_others-requires
put_others-requires c = let l = c.requires.0.cart_16 in
    let most = own_most (leb c.args.p c.steps-steps.result) c.args.c c.args.p in
    (l, omega (arith, few _ _ c.args.c l c.args.net.now.sound, c.steps-steps.ensures), omega (arith, c.requires.1, c.put_own.ensures.counted))

pub returns-then-p-steps : goal.returns-then-p-steps
returns-then-p-steps c = let net = c.args.net.now in
    let l = c.requires.0.cart_16 in
    let n = c.steps-steps in
    let count = count_is net.sheet.now net.ahead.now c.args.c l in
    rw (position_is net.sheet.now net.ahead.now c.args.c l net.lanes net.lanes_are net.sound.once c.args.p (omega (arith, n.ensures)) n.result
    c.front.result n.ensures c.front.ensures)
    (wrote_then c.put_own.ensures c.put_others.ensures)

pub returns-else-p-steps : goal.returns-else-p-steps
returns-else-p-steps c = let net = c.args.net.now in
    let l = c.requires.0.cart_16 in
    let n = c.steps-steps in
    let count = count_is net.sheet.now net.ahead.now c.args.c l in
    rw (position_last net.sheet.now net.ahead.now c.args.c l c.args.p n.result n.ensures (omega (arith, n.ensures, c.requires.0.some)) c.if-p-steps.false)
    c.put_own.ensures
