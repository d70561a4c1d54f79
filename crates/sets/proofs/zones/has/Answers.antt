-- The shift brings digit i down and the remainder by 2 is that digit: the definition itself.
use mathlib.Core.Path.{refl}
use Rattle.sets.specs.inner.Member.{has}
use Rattle.sets.proofs.zones.has.Goals as goal

pub returns : goal.returns
unfolding has
returns c = refl
