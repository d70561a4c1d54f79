-- The place, and then the move's three lines, by whether the position is the last.
use borrow.Author.Tests.{le-leb}
use Rattle.net_text.proofs.LineLaws.{wrote_then}
use Rattle.net_text.proofs.Writer.put_own.Goals as goal

pub returns-then-p-steps : goal.returns-then-p-steps
returns-then-p-steps c = rw (le-leb _ _ c.if-p-steps.true)
    (wrote_then c.put.ensures (wrote_then c.put-then-p-steps.ensures (wrote_then c.put-then-p-steps-2.ensures c.put-then-p-steps-3.ensures)))
