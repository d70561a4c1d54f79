-- Costs that differ decide; written out, for a wrong answer is then refused at values.
use native.Mathlib.Omega.{arith}
use Rattle.planner_costs.proofs.is_taken.Goals as goal

pub returns-then-cost-most : goal.returns-then-cost-most
returns-then-cost-most c = grind arith

pub returns-then-most-cost : goal.returns-then-most-cost
returns-then-most-cost c = grind arith
