use native.Mathlib.Omega.{arith}
use Rattle.words.specs.Lists.{each}
use Rattle.net_text.specs.inner.Tables.{other_in}
use Rattle.net_text.proofs.LineLaws.{wrote_none, wrote_then, wrote_turn}
use Rattle.net_text.proofs.TableLines.{lane_most, others_most}
use Rattle.net_text.proofs.Writer.put_others.Goals as goal

pub loop-d-init : goal.loop-d-init
unfolding each
loop-d-init c = wrote_none

pub put_lane-requires : goal.put_lane-requires
put_lane-requires c = let a = c.args in
    omega (arith, others_most a.net.now.sheet.now a.front a.ahead a.c a.p c.loop-d.d, c.requires, c.loop-d.invariant.counted)

pub put_pair-requires : goal.put_pair-requires
put_pair-requires c = let a = c.args in
    let most = others_most a.net.now.sheet.now a.front a.ahead a.c a.p c.loop-d.d in
    let more = lane_most a.front a.c a.p c.loop-d.d in
    (c.requires.0, c.requires.1, c.loop-d-test.true, omega (arith, c.requires.2, c.loop-d.invariant.counted, c.put_lane.ensures.counted))

pub loop-d-preserved : goal.loop-d-preserved
unfolding other_in
loop-d-preserved c = let a = c.args in
    wrote_turn (other_in a.net.now.sheet.now a.front a.ahead a.c a.p) c.loop-d.d c.loop-d.invariant (wrote_then c.put_lane.ensures c.put_pair.ensures)
