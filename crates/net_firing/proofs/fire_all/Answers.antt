use Rattle.sheet_table.specs.inner.Parts.{steps}
use Rattle.crossing.proofs.Tables.{carts_16, steps_is}
use Rattle.net_firing.proofs.Rounds.{marked_none, moves_less, fired_out}
use Rattle.net_firing.proofs.fire_all.Goals as goal

pub loop-init : goal.loop-init
loop-init c = marked_none _

pub loop-smaller : goal.loop-smaller
loop-smaller c = moves_less _ (carts_16 _ _ _ _) _ _ (rw c.loop-test.true at c.round.ensures)

pub returns : goal.returns
returns c = let net = c.of-net in
    rw (net.ensures.sheet, net.ensures.ahead) at (fired_out _ (carts_16 _ _ _ _) (steps net.result.sheet.now) _ _ _ (steps_is _ _ _ _)
    (rw c.loop-test.false at c.round.ensures) c.some_inside.ensures)
