-- How reading both was left decides, or what the net of the tables answers.
use Rattle.crossing.proofs.Doors.{table_plan_sound}
use Rattle.plan_reader.proofs.ReadLaws.{valid_sheet, valid_orders}
use Rattle.net.proofs.NetLaws.{net_refused, net_read}
use Rattle.net.proofs.net.Goals as goal

pub net_orders-requires : goal.net_orders-requires
net_orders-requires c =
    table_plan_sound _ _ _ (valid_sheet _ _ _ _ _ c.in-Ok.ensures) _ (valid_orders _ _ _ _ c.in-Ok.field-0 c.in-Ok.ensures)

pub returns-in-Ok : goal.returns-in-Ok
returns-in-Ok c =
    let (answer, holds) = net_read _ _ _ _ _ c.in-Ok.field-0 c.in-Ok.ensures _ _ (c.net_orders.ensures.answer, c.net_orders.ensures.holds) in
    record { answer = answer; holds = holds }

pub returns-in-Err : goal.returns-in-Err
returns-in-Err c = let (answer, holds) = net_refused _ _ c.args.room.now _ c.in-Err.ensures.0 c.in-Err.ensures.1 in
    record { answer = rw c.not_netted.ensures answer; holds = holds }
