-- How the scan is left, and the tests after it, say how the pass ends.
use mathlib.Core.Path.{refl, ap, ◌∙◌}
use native.Mathlib.Omega.{arith}
use lib.Dec.{lit<}
use Rattle.std.proofs.lemmas.Result.{err_from_is_err_and}
use Rattle.plan.specs.declared.Orders.{Orders}
use Rattle.plan_lists.proofs.VisitLaws.{visits_sets}
use Rattle.plan_reader.proofs.LeftLaws.{lists_refused, lists_long, lists_late, lists_read}
use Rattle.plan_reader.proofs.read_lists.Goals as goal

pub step_counts-requires : goal.step_counts-requires
step_counts-requires c = record { count = c.requires.0.steps_16; range = λ i. omega (arith, c.requires.0.routes.few i) }

pub who_visits-who-requires : goal.who_visits-who-requires
who_visits-who-requires c = rw c.step_counts.ensures c.requires.0.routes

pub may_lead-lead-requires : goal.may_lead-lead-requires
may_lead-lead-requires c = c.requires.0.lanes

pub scan_lists-requires : goal.scan_lists-requires
scan_lists-requires c = (
  c.requires.0.zones_most,
  rw c.who_visits-who.ensures (visits_sets _ _),
  (ap (λ (o : Orders). o.count) c.requires.1, ap (λ (o : Orders). o.list) c.requires.1, refl),
)

pub returns-in_err-scan : goal.returns-in_err-scan
returns-in_err-scan c =
    let p = err_from_is_err_and c.from_residual.result c.from_residual.ensures.1 in
    rw (p.1, p.2) (
      c.in_err-scan.ensures.1.0,
      lists_refused _ _ _ _ _ _ _ _
          (rw c.step_counts.ensures at c.who_visits-who.ensures) c.may_lead-lead.ensures _ c.in_err-scan.ensures.1.1,
    )

pub returns-then-scan-p : goal.returns-then-scan-p
returns-then-scan-p c = rw c.refused.ensures (
  lit< tt,
  lists_long _ _ _ _ _ _ _ _
      (rw c.step_counts.ensures at c.who_visits-who.ensures) c.may_lead-lead.ensures _
      c.scan_lists.new.orders _ c.in_ok-scan.ensures.1 c.if-scan-p.true,
)

pub returns-in-Some : goal.returns-in-Some
returns-in-Some c = rw c.refused-in-Some.ensures (
  lit< tt,
  lists_late _ _ _ _ _ _ _ _
      (rw c.step_counts.ensures at c.who_visits-who.ensures) c.may_lead-lead.ensures _
      c.scan_lists.new.orders _ c.in_ok-scan.ensures.1 c.if-scan-p.false _ c.in-Some.is,
)

pub put_ahead-requires : goal.put_ahead-requires
put_ahead-requires c = (c.requires.0.routes, c.in_ok-scan.ensures.0 ∙ ap (λ (o : Orders). o.ahead) c.requires.1)

pub returns : goal.returns
returns c = lists_read _ _ _ _ _ _ _ _ (rw c.step_counts.ensures at c.who_visits-who.ensures) c.may_lead-lead.ensures _
    c.scan_lists.new.orders _ c.in_ok-scan.ensures.1 c.if-scan-p.false c.in_default.is _ c.put_ahead.ensures
