-- Where the answer's number is not 0 the record stays as it was; else the cart is one of the record's, and its position and the count are stored.
use Rattle.moving.proofs.Stored.{refused_holds, done_holds, done_inside}
use Rattle.moving.proofs.oblakosh_move_cart.Goals as goal

pub bounds-lent-cart : goal.bounds-lent-cart
bounds-lent-cart c = done_inside _ _ _ _ _ c.ask-asked.ensures c.if-asked-eq0.true

pub returns-then-asked-eq0 : goal.returns-then-asked-eq0
returns-then-asked-eq0 c = record { answer = c.ask-asked.ensures; holds = done_holds _ _ _ _ _ c.ask-asked.ensures c.if-asked-eq0.true }

pub returns-else-asked-eq0 : goal.returns-else-asked-eq0
returns-else-asked-eq0 c = record { answer = c.ask-asked.ensures; holds = refused_holds _ _ _ _ _ c.ask-asked.ensures c.if-asked-eq0.false }
