-- The loop keeps which step the cart has come to, by permitted moves, each counted; it ends where the cart is held, or out.
use Rattle.judge_running.proofs.OneCart.{Advancing}
use Rattle.judge_running.proofs.advance.Given as goal

abbrev pub invariant-loop-x : goal.invariant-loop-x
invariant-loop-x l = Advancing l.sheet l.ahead l.initial.run l.run l.c l.x
