-- A line that the room reaches to is stored whole, and no byte of another.
use mathlib.Core.Path.{refl}
use Rattle.net_text.proofs.LineLaws.{wrote_line, wrote_short}
use Rattle.net_text.proofs.Writer.put.Goals as goal
use Rattle.net_text.proofs.Writer.put.Goals.{then-at-self, else-at-self}

pub returns : goal.returns
returns c = elim c.if-at-self.branch [
  | then-at-self w ↦ rw w.self-is (wrote_line _ refl w.put.ensures refl)
  | else-at-self w ↦ rw w.self-is (wrote_short _ w.if-at-self.false)
]
