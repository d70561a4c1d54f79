-- From the lane no zone is left; the loop keeps which zone the cart has come into, by permitted moves; it ends where the cart is held, or out.
use Rattle.judge_all_out.proofs.OneCart.{GoingOn}
use Rattle.judge_all_out.proofs.go_on.Given as goal

abbrev pub invariant-loop-p : goal.invariant-loop-p
invariant-loop-p l = GoingOn l.ground.sheet.now l.ground.ahead.now l.at l.left l.c l.p
