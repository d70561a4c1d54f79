use mathlib.Core.Path.{sym, ap, ◌∙◌}
use native.Mathlib.Omega.{arith}
use lib.ListN.{length}
use Rattle.plan.proofs.RoundTrip.{length_written}
use Rattle.plan_writer.proofs.WritingLaws.{written_few, room_head, head_length, store_head}
use Rattle.plan_writer.proofs.WritingLaws.{storing_start, storing_room, storing_turn, storing_end}
use Rattle.plan_writer.proofs.write_plan.Goals as goal

pub overflow_cast-total : goal.overflow_cast-total
overflow_cast-total c = omega (arith, c.requires.1, written_few _ _ _ c.requires.0)

pub slice_bounds-copy_from_slice-end : goal.slice_bounds-copy_from_slice-end
slice_bounds-copy_from_slice-end c = omega (arith, length_written c.args.orders.now c.args.n, c.requires.0.fits)

pub slice_bounds-copy_from_slice-end-2 : goal.slice_bounds-copy_from_slice-end-2
slice_bounds-copy_from_slice-end-2 c = sym (room_head _ _ _ c.requires.0)

pub copy_from_slice-requires : goal.copy_from_slice-requires
copy_from_slice-requires c = room_head _ _ _ c.requires.0

pub loop-z-init : goal.loop-z-init
loop-z-init c = storing_start _ c.requires.1

pub write_list-at-requires : goal.write_list-at-requires
write_list-at-requires c = (
  omega (arith, c.requires.0.zones),
  c.requires.0.list c.loop-z.z c.loop-z-test.true,
  storing_room c.loop-z.invariant c.loop-z-test.true
      (omega (arith, c.requires.1, c.requires.0.fits, head_length _ _ _ _ c.requires.0 (ap length c.copy_from_slice.ensures.after))),
)

pub loop-z-preserved : goal.loop-z-preserved
loop-z-preserved c = storing_turn c.loop-z.invariant c.loop-z-test.true _ _ c.write_list-at.ensures.end c.write_list-at.ensures.bytes

pub returns : goal.returns
returns c = storing_end c.loop-z.invariant (omega arith) ∙ store_head _ _ _ _ _ c.requires.0.zones c.requires.1
    (omega (arith, c.requires.1, c.requires.0.fits)) (rw c.to_be_bytes.ensures at c.copy_from_slice.ensures.after)
