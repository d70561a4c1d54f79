-- One less than `1 << i` has the members below i: the law over the width, at 32 digits.
use Prim.Native.Nat.{◌-◌, ◌*◌, ◌%◌, ◌^◌}
use native.Mathlib.Omega.{arith}
use lib.Bits.{and_le_l}
use Rattle.sets.proofs.Ends.{shl_some, below_and}
use Rattle.sets.proofs.carts.below.Goals as goal

pub overflow_sub-result : goal.overflow_sub-result
overflow_sub-result c = shl_some 32 c.args.i (omega (arith, c.requires))

pub overflow_cast-result-3 : goal.overflow_cast-result-3
overflow_cast-result-3 c = omega (arith, and_le_l c.args.set ((1 * 2 ^ c.args.i) % 2 ^ 32 - 1), c.ranges.set.fits)

pub returns : goal.returns
returns c = below_and 32 c.args.set c.args.i (omega (arith, c.requires))
