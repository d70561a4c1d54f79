-- Four sets change, each by one cart.
use Rattle.planner_orders.proofs.Deciding.{decides}
use Rattle.planner_orders.proofs.Present.decide.Goals as goal

pub returns : goal.returns
returns c = decides _ _ _ _ _ _ _ _ _ c.with.ensures
    c.with-2.ensures c.without.ensures c.without-2.ensures
