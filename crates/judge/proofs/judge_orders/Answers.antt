-- Each way out is what the settled tables tell.
use mathlib.Core.Path.{ap, ◌∙◌}
use mathlib.Core.List.{◌++◌}
use native.Mathlib.Omega.{arith}
use lib.ListN.{length-take, drop}
use Rattle.sheet_filling.specs.inner.Filled.{sheet_in}
use Rattle.crossing.specs.Plans.{given_by}
use Rattle.crossing.proofs.Plans.{plan_sound}
use Rattle.judge.proofs.Words.{sheet_leavable}
use Rattle.judge.proofs.Rings.{sheet_wanting, orders_listable}
use Rattle.judge.proofs.Answers.{locked_answer, short_answer, accepted_answer}
use Rattle.judge.proofs.judge_orders.Goals as goal

pub verdict_of-requires : goal.verdict_of-requires
verdict_of-requires c = plan_sound (sheet_in _ _ c.args.sheet.now) c.requires.valid c.args.orders.now c.requires.valid_orders

pub of-ground-requires : goal.of-ground-requires
unfolding given_by
of-ground-requires c = (plan_sound (sheet_in _ _ c.args.sheet.now) c.requires.valid c.args.orders.now c.requires.valid_orders).ranged.lane_most

pub ring_of-ring-requires : goal.ring_of-ring-requires
ring_of-ring-requires c = (
  rw c.of-ground.ensures.0 record {
    wanting = sheet_wanting (sheet_in _ _ c.args.sheet.now) c.requires.valid _;
    listable = orders_listable (sheet_in _ _ c.args.sheet.now) c.requires.valid c.verdict_of.new.run.at c.args.orders.now c.requires.valid_orders;
  },
  omega (arith, (c.verdict_of.ensures.lowest _ c.in-Some.is).0),
)

pub returns-in-Some : goal.returns-in-Some
returns-in-Some c = λ n m v w.
    let h = locked_answer (sheet_in n m c.args.sheet.now) c.args.orders.now v w _ _ c.verdict_of.ensures _ _ c.in-Some.is _ (rw c.of-ground.ensures.0 at c.ring_of-ring.ensures) in
    (c.not_judged.ensures ∙ rw c.refused.ensures h.0, h.1)

pub returns-then-words-lt128 : goal.returns-then-words-lt128
returns-then-words-lt128 c = λ n m v w.
    let h = short_answer (sheet_in n m c.args.sheet.now) c.args.orders.now v w _ _ c.verdict_of.ensures _ c.in_default.is c.if-words-lt128.true in
    (c.not_judged-then-words-lt128.ensures ∙ rw (c.refused-then-words-lt128.ensures, c.no_ring.ensures) h.0, h.1)

pub copy_from_slice-requires : goal.copy_from_slice-requires
copy_from_slice-requires c = omega (arith, length-take 128 c.args.words.now, c.verdict_of.ensures.settled.enter_128)

pub finish_of-requires : goal.finish_of-requires
finish_of-requires c = sheet_leavable (sheet_in _ _ c.args.sheet.now) c.requires.valid _ c.verdict_of.ensures.settled.enter_most

pub returns : goal.returns
returns c = λ n m v w.
    let h = accepted_answer (sheet_in n m c.args.sheet.now) c.args.orders.now v w _ _ c.verdict_of.ensures _
    c.in_default.is c.if-words-lt128.false _ c.finish_of.ensures _ (ap (λ times. times ++ drop 128 c.args.words.now) c.copy_from_slice.ensures.after) in
    (rw (c.done.ensures, c.no_ring-2.ensures) h.0, h.1)
