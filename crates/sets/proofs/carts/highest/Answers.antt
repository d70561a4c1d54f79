-- The zeros above the highest 1 tell its place: the law over the width, at 16 digits.
use native.Mathlib.Omega.{arith}
use lib.Count.{leading_le}
use Rattle.sets.proofs.Ends.{leading_few, highest_leading}
use Rattle.sets.proofs.carts.highest.Goals as goal

pub overflow_cast-result : goal.overflow_cast-result
overflow_cast-result c = omega (arith, leading_le 16 c.args.set)

pub overflow_sub-result : goal.overflow_sub-result
overflow_sub-result c = omega (arith, leading_few 16 c.args.set c.requires c.ranges.set.fits)

pub returns : goal.returns
returns c = (omega arith, highest_leading 16 c.args.set c.requires c.ranges.set.fits)
