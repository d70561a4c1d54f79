-- The loop keeps that storing the lists that are left gives the whole plan.
use Rattle.plan_writer.proofs.WritingLaws.{Storing}
use Rattle.plan_writer.proofs.write_plan.Given as goal

abbrev pub invariant-loop-z : goal.invariant-loop-z
invariant-loop-z l = Storing l.orders l.n l.total l.initial.room l.room l.at l.z
