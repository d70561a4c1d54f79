-- The steps passed have their carts at their places.
use Prim.Native.Nat.{◌+◌, ◌*◌}
use Rattle.planner_lists.specs.inner.Places.{PlacedTo}
use Rattle.sheet_table.specs.inner.Parts as parts
use Rattle.planner_lists.proofs.place_carts.Given as goal

abbrev pub invariant-loop-c : goal.invariant-loop-c
invariant-loop-c l = PlacedTo (parts.steps l.sheet) (parts.zone l.sheet) l.ahead (8 * l.c) l.list

abbrev pub invariant-loop-j : goal.invariant-loop-j
invariant-loop-j l = PlacedTo (parts.steps l.sheet) (parts.zone l.sheet) l.ahead (8 * l.c + l.j) l.list
