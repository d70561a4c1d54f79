-- The lines are counted as in any room, and each is 23 bytes.
use native.Mathlib.Omega.{arith}
use Rattle.crossing.specs.inner.Tables.{crossing_of}
use Rattle.net_text.specs.Lines.{net_lines, net_text}
use Rattle.net_text.proofs.ReadBack.{text_length}
use Rattle.net_text.proofs.text_length.Goals as goal

pub returns : goal.returns
unfolding net_text
returns c = let a = c.args in
    let counted = rw (c.of.ensures.sheet, c.of.ensures.ahead) at c.put_net.ensures.wrote.counted in
    omega (arith, counted, text_length (net_lines (crossing_of a.sheet.now a.ahead.now)))
