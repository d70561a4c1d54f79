-- Each way out says whether the transition can fire, by the law for its test.
use native.Mathlib.Omega.{arith}
use borrow.Author.Tests.{eqb-true, eq-eqb, ltb-true}
use Rattle.net_firing.proofs.CanFire.{x_128, held_says, zone_says, past_says}
use Rattle.net_firing.proofs.Net.can_fire.Goals as goal

pub bounds-self-x : goal.bounds-self-x
bounds-self-x c = x_128 _ _ c.args.self.now.sound _ c.requires _ (omega arith)

pub bounds-on-x : goal.bounds-on-x
bounds-on-x c = x_128 _ _ c.args.self.now.sound _ c.requires _ (omega arith)

pub returns-then-line_free : goal.returns-then-line_free
returns-then-line_free c = let net = c.args.self.now in
    let from = c.from-p.ensures in
    zone_says _ _ net.sound _ c.requires c.args.on.now _ net.lanes_are (omega arith) _ (rw from at c.line_free.ensures)
    c.if-line_free.true _ (rw from) _ c.within.ensures

pub returns-else-line_free : goal.returns-else-line_free
returns-else-line_free c = let net = c.args.self.now in
    let from = c.from-p.ensures in
    held_says _ _ net.sound _ c.requires c.args.on.now _ net.lanes_are (omega arith) _ (rw from at c.line_free.ensures)
    c.if-line_free.false

pub returns-then-k-gt0 : goal.returns-then-k-gt0
returns-then-k-gt0 c = past_says _ _ c.args.self.now.sound _ c.requires c.args.on.now (omega arith) _
    (λ e. (omega arith, omega (arith, eqb-true _ _ e)), λ h. eq-eqb _ _ (omega (arith, h)))

pub returns-else-k-gt0 : goal.returns-else-k-gt0
returns-else-k-gt0 c = past_says _ _ c.args.self.now.sound _ c.requires c.args.on.now (omega arith) _
    (λ e. absurd (omega (arith, ltb-true _ _ e)), λ h. absurd (omega (arith, h)))
