-- A bool as a number is 1 where it is true, and 0 where it isn't.
use Prim.Native.Nat.{◌≤◌}
use mathlib.Core.Path.{◌≡◌, refl}
use mathlib.Core.Bool.{Bool, true, false}
use native.Mathlib.Omega.{arith}
use Rattle.std.specs.Int.{from_bool}
use Rattle.sets.specs.Counting.{bit}

pub bit_is : (b : Bool) → from_bool b ≡ bit b
bit_is true = refl
bit_is false = refl

pub bit_most : (b : Bool) → from_bool b ≤ 1
bit_most true = omega arith
bit_most false = omega arith
