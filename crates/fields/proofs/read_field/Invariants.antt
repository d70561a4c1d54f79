-- The loop keeps the value of the bytes taken so far; a field that ends past the last byte is cut.
use Prim.Native.Nat.{◌<◌, ◌^◌}
use mathlib.Core.Path.{◌≡◌}
use Rattle.fields.specs.Field.{value}
use Rattle.fields.proofs.read_field.Given as goal

abbrev pub invariant-loop-k : goal.invariant-loop-k
invariant-loop-k l = (l.v ≡ value l.s l.at l.k) × (l.v < 256 ^ l.k)
