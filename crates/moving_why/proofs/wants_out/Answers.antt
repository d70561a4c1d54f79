-- What the test says, as a number.
use mathlib.Core.Path.{◌∙◌}
use Rattle.moving_asking.proofs.Bit.{bit_is}
use Rattle.moving_why.proofs.wants_out.Goals as goal

pub returns : goal.returns
returns c = rw (c.from.ensures, c.steps.ensures) at c.from-2.ensures ∙ bit_is _
