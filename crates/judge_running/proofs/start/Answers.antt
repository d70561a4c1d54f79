-- A cart that has started has nothing to do here; else the first zone is entered, and who is next behind is told.
use native.Mathlib.Omega.{arith}
use Rattle.judge_running.proofs.OneCart.{stands_few, started_none, first_room, first_enterable, first_mate, started_first}
use Rattle.judge_running.proofs.start.Goals as goal

pub returns-then-run-c-gt0 : goal.returns-then-run-c-gt0
returns-then-run-c-gt0 c = started_none _ _ _ c.requires.0 _ c.requires.1 c.requires.2 c.if-run-c-gt0.true

pub move_in-requires : goal.move_in-requires
move_in-requires c = first_enterable _ _ _ c.requires.0 _ c.requires.1 c.requires.2 (omega (arith, c.if-run-c-gt0.false)) _ c.requires.3

pub count_move-requires : goal.count_move-requires
count_move-requires c = rw c.move_in.ensures.others
    (c.requires.1, stands_few _ _ _ c.requires.0 _ c.requires.1, first_room _ _ _ c.requires.0 _ c.requires.1 c.requires.2)

pub next_behind-requires : goal.next_behind-requires
next_behind-requires c = (
  c.requires.1,
  first_mate _ _ _ c.requires.0 _ c.requires.1 c.requires.2 (omega (arith, c.if-run-c-gt0.false)) _ c.requires.3,
)

pub returns : goal.returns
returns c = rw (c.count_move.ensures, c.move_in.ensures.others)
    (started_first _ _ _ c.requires.0 _ c.requires.1 c.requires.2 (omega (arith, c.if-run-c-gt0.false)) _ c.requires.3 _ c.move_in.ensures.gone _
    c.next_behind.ensures)
