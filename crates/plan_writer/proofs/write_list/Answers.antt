use native.Mathlib.Omega.{arith}
use Rattle.plan_writer.proofs.WritingLaws.{list_stored}
use Rattle.plan_writer.proofs.write_list.Goals as goal

pub returns-clause-bytes : goal.returns-clause-bytes
returns-clause-bytes c = list_stored c.args.orders.now c.args.z c.args.room.now c.args.at _ c.from-n.result _ _ c.requires.1 c.from-n.ensures
    (omega arith) (omega arith) c.requires.2 c.copy_from_slice.ensures.len c.copy_from_slice.ensures.after
