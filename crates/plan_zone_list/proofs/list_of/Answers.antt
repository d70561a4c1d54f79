-- Each way out is what reading the plan and the zone's number say.
use native.Mathlib.Omega.{arith}
use Rattle.std.proofs.lemmas.Result.{err_from_is_err_and}
use Rattle.plan_zone_list.proofs.FindingLaws.{list_refused, list_unknown, list_zones, list_counts, list_found_lem}
use Rattle.plan_zone_list.proofs.list_of.Goals as goal

pub returns-in_err-counts : goal.returns-in_err-counts
returns-in_err-counts c =
    let r = err_from_is_err_and c.from_residual.result c.from_residual.ensures.1 in
    rw (r.1, r.2) (list_refused _ _ c.args.zone _ c.in_err-counts.ensures.0 c.in_err-counts.ensures.1)

pub returns-then-counts-zone : goal.returns-then-counts-zone
returns-then-counts-zone c = rw c.refused.ensures (list_unknown _ _ c.args.zone _ _ c.in_ok-counts.ensures c.if-counts-zone.true)

pub sum_of-sum-requires : goal.sum_of-sum-requires
sum_of-sum-requires c =
    let most = list_zones _ _ c.args.zone _ _ c.in_ok-counts.ensures in
    (omega (arith, most), omega (arith, most, list_counts _ _ c.args.zone _ _ c.in_ok-counts.ensures))

pub overflow_add-result : goal.overflow_add-result
overflow_add-result c = omega (arith, list_zones _ _ c.args.zone _ _ c.in_ok-counts.ensures)

pub overflow_add-result-2 : goal.overflow_add-result-2
overflow_add-result-2 c = omega (arith, list_zones _ _ c.args.zone _ _ c.in_ok-counts.ensures, c.sum_of-sum.ensures.1)

pub bounds-orders-zone : goal.bounds-orders-zone
bounds-orders-zone c = omega (arith, list_zones _ _ c.args.zone _ _ c.in_ok-counts.ensures)

pub returns : goal.returns
returns c = rw (c.done.ensures, c.from.ensures) (list_found_lem _ _ c.args.zone _ _ c.in_ok-counts.ensures c.if-counts-zone.false _ c.sum_of-sum.ensures.0)
