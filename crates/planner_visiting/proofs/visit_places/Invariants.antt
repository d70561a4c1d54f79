-- The loops keep that the steps before step j of cart c have their places.
use Prim.Native.Nat.{◌+◌, ◌*◌}
use Rattle.planner_visiting.proofs.Filling.{PlacedTo}
use Rattle.sheet_table.specs.inner.Parts as parts
use Rattle.planner_visiting.proofs.visit_places.Given as goal

abbrev pub invariant-loop-c : goal.invariant-loop-c
invariant-loop-c l = PlacedTo (parts.steps l.sheet) (parts.zone l.sheet) (8 * l.c) l.visit

abbrev pub invariant-loop-j : goal.invariant-loop-j
invariant-loop-j l = PlacedTo (parts.steps l.sheet) (parts.zone l.sheet) (8 * l.c + l.j) l.visit
