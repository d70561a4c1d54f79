-- The room is shorter than the text that was counted, or holds it.
use mathlib.Core.Path.{ap, ◌∙◌}
use native.Mathlib.Omega.{arith}
use Rattle.net.specs.Netting.{not_netted}
use Rattle.net.proofs.NetLaws.{run_short, run_fits}
use Rattle.net.proofs.net_orders.Goals as goal

pub returns-then-room-length : goal.returns-then-room-length
returns-then-room-length c =
    let (answer, holds) = run_short _ _ _ c.text_length-length.ensures c.if-room-length.true _
    (c.not_netted.ensures ∙ ap not_netted c.refused.ensures) in
    record { answer = answer; holds = holds }

pub write_text-requires : goal.write_text-requires
write_text-requires c = (c.requires, omega (arith, c.text_length-length.ensures, c.if-room-length.false))

pub returns : goal.returns
returns c =
    let (answer, holds) = run_fits _ _ _ c.text_length-length.ensures c.if-room-length.false _ c.done.ensures _ _
    c.from.ensures _ c.fire_all-locked.ensures _ c.write_text.ensures in
    record { answer = answer; holds = holds }
