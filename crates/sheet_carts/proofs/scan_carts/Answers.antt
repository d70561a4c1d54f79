use mathlib.Core.Path.{sym, ◌∙◌}
use native.Mathlib.Omega.{arith}
use Rattle.words.proofs.Left.{left_all}
use Rattle.sets.proofs.Laws.{has_none}
use Rattle.sheet_cart.proofs.PartLaws.{head_steps, head_refused, step_zone, step_refused}
use Rattle.sheet_carts.proofs.ScanLaws.{carts_end, carts_refused, carts_head, steps_end, steps_refused, steps_next}
use Rattle.sheet_carts.proofs.scan_carts.Goals as goal

pub loop-i-init : goal.loop-i-init
loop-i-init c = rw left_all

pub loop-j-init : goal.loop-j-init
loop-j-init c = rw left_all

pub in_step-requires : goal.in_step-requires
in_step-requires c = (
  omega (arith, c.loop-i-test.true, c.requires.1),
  omega (arith, c.loop-j-test.true, head_steps _ _ _ _ (sym c.read_head.ensures ∙ c.in-Ok.is)),
)

pub put_step-requires : goal.put_step-requires
put_step-requires c = omega (
  arith,
  c.loop-i-test.true,
  c.loop-j-test.true,
  head_steps _ _ _ _ (sym c.read_head.ensures ∙ c.in-Ok.is),
  c.requires.1,
)

pub with-seen-requires : goal.with-seen-requires
with-seen-requires c = omega (
  arith,
  step_zone _ _ _ _ _ _ _ _ (sym c.read_step.ensures ∙ c.in-Ok-read_step.is),
  c.requires.0,
)

pub loop-j-preserved : goal.loop-j-preserved
loop-j-preserved c = c.loop-j.invariant ∙ steps_next _ _ _ _ _ _ _ _ _
    c.in_step.ensures
    c.loop-j-test.true _ _
    (sym c.read_step.ensures ∙ c.in-Ok-read_step.is) _
    (λ x z. c.with-seen.ensures z x) _ (c.put_step.ensures _ _)

pub loop-i-preserved : goal.loop-i-preserved
loop-i-preserved c = c.loop-i.invariant
    ∙ carts_head _ _ _ _ _ _ _ c.in_cart.ensures
    c.loop-i-test.true _ _
    (sym c.read_head.ensures
    ∙ c.in-Ok.is) _ (λ x z. has_none z x) _ (c.put_cart.ensures _ _)
    ∙ c.loop-j.invariant ∙ steps_end _ _ _ _ _ _ _ _ (omega arith)

pub returns-after-loop-i : goal.returns-after-loop-i
returns-after-loop-i c = c.loop-i.invariant ∙ carts_end _ _ _ _ _ _ (omega arith)

pub returns-in-Err : goal.returns-in-Err
returns-in-Err c = let e = sym c.read_head.ensures ∙ c.in-Err.is in (
  head_refused _ _ _ e,
  c.loop-i.invariant ∙ carts_refused _ _ _ _ _ _ _ c.in_cart.ensures
      c.loop-i-test.true _ e,
)

pub returns-in-Err-read_step : goal.returns-in-Err-read_step
returns-in-Err-read_step c = let e = sym c.read_step.ensures ∙ c.in-Err-read_step.is in (
  step_refused _ _ _ _ _ _ _ e,
  c.loop-i.invariant
      ∙ carts_head _ _ _ _ _ _ _
      c.in_cart.ensures
      c.loop-i-test.true _ _ (sym
      c.read_head.ensures
      ∙ c.in-Ok.is) _ (λ x z. has_none z x) _
      (c.put_cart.ensures _ _) ∙ c.loop-j.invariant
      ∙ steps_refused _ _ _ _ _ _ _ _ _ c.in_step.ensures c.loop-j-test.true _ e,
)
