-- Each way out says whether the move is permitted, by the law for its test.
use Rattle.judge_one_move.proofs.Steps.{absent_says, past_says}
use Rattle.judge_one_move.proofs.may_move.Goals as goal

pub may_go_in-requires : goal.may_go_in-requires
may_go_in-requires c = (
  c.requires.0,
  c.requires.1,
  rw (c.from-p.ensures, c.steps-k.ensures) at c.if-p-k.true,
)

pub returns-then-k-eq0 : goal.returns-then-k-eq0
returns-then-k-eq0 c = absent_says _ _ _ _ c.requires.0 _ c.requires.1 (rw c.steps-k.ensures at c.if-k-eq0.true)

pub returns : goal.returns
returns c = rw (c.from-p.ensures, c.steps-k.ensures) (past_says _ _ _ _ c.requires.0 _ c.requires.1
    (rw (c.from-p.ensures, c.steps-k.ensures) at c.if-p-k.false) (rw c.steps-k.ensures at c.if-k-eq0.false))
