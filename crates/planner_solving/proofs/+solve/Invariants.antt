-- A trial that gives orders solves the group; where it fails both halves are smaller.
use Prim.Native.Nat.{◌-◌}
use Rattle.planner_solving.proofs.+solve.Given as goal

abbrev pub decreases-solve : goal.decreases-solve
decreases-solve l = l.high - l.low
