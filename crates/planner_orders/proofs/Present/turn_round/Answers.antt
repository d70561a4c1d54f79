-- Four sets change, each by one cart.
use mathlib.Core.Path.{refl}
use Rattle.planner_orders.proofs.Deciding.{turns_round}
use Rattle.planner_orders.proofs.Present.turn_round.Goals as goal

pub returns : goal.returns
returns c = (turns_round _ _ _ _ _ _ _ _ c.without.ensures c.with.ensures c.without-2.ensures c.with-2.ensures, refl)
