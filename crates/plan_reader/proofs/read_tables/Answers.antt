-- The sheet's refusal is the plan's; else how the orders were left is how reading both is left.
use Rattle.std.proofs.lemmas.Result.{err_from_is_err_and}
use Rattle.plan_reader.proofs.ReadLaws.{sheet_refused_lem, tables_fit, scan_refused, scan_read}
use Rattle.plan_reader.proofs.read_tables.Goals as goal

pub returns-in_err-counts : goal.returns-in_err-counts
returns-in_err-counts c =
    let r = err_from_is_err_and c.from_residual.result c.from_residual.ensures.1 in
    rw (r.1, r.2) (c.in_err-counts.ensures.0, sheet_refused_lem _ _ _ c.in_err-counts.ensures.0 c.in_err-counts.ensures.1)

pub read_orders-requires : goal.read_orders-requires
read_orders-requires c = (tables_fit _ c.args.p.now _ c.in_ok-counts.ensures, c.requires.1)

pub returns-in_err-read_orders : goal.returns-in_err-read_orders
returns-in_err-read_orders c =
    let r = err_from_is_err_and c.from_residual-in_err-read_orders.result c.from_residual-in_err-read_orders.ensures.1 in
    rw (r.1, r.2) (c.in_err-read_orders.ensures.0, scan_refused _ _ _ c.in_ok-counts.ensures _ c.in_err-read_orders.ensures.1)

pub returns : goal.returns
returns c = scan_read _ _ _ c.in_ok-counts.ensures _ c.in_ok-read_orders.ensures
