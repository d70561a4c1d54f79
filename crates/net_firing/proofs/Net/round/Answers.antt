use mathlib.Core.Path.{sym, ◌∙◌}
use mathlib.Core.Bool.{true≢false}
use Rattle.net_firing.proofs.Rounds.{asked_held, asked_fired}
use Rattle.net_firing.proofs.Net.round.Goals as goal
use Rattle.net_firing.proofs.Net.round.Goals.{then-can_fire, else-can_fire}

pub loop-c-preserved : goal.loop-c-preserved
loop-c-preserved c = let on = c.loop-c.invariant in
    let says = c.can_fire.ensures in
    elim c.if-can_fire.branch [
      | then-can_fire w ↦ rw (w.on-is, w.fired-is)
          (asked_fired _ _ _ _ _ on _ c.loop-c-test.true w.fire.ensures.0 w.fire.ensures.1)
      | else-can_fire w ↦ rw (w.on-is, w.fired-is)
          (asked_held _ _ _ _ _ on (λ can. true≢false (sym (says.1 can) ∙ w.if-can_fire.false)))
    ]
