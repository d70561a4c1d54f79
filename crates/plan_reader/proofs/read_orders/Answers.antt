-- The opening leaves the rest to the lists, or its refusal is the answer.
use mathlib.Core.Path.{sym}
use lib.Dec.{lit<}
use Rattle.std.proofs.lemmas.Result.{err_from_is_err_and}
use Rattle.opening.proofs.OpeningLaws.{opening_refused}
use Rattle.plan_reader.specs.inner.Scan.{scan}
use Rattle.plan_reader.proofs.read_orders.Goals as goal

pub returns-in_err-c : goal.returns-in_err-c
unfolding scan
returns-in_err-c c =
    let p = err_from_is_err_and c.from_residual.result c.from_residual.ensures.1 in
    let e = sym c.in_err-c.ensures in
    rw (p.1, p.2) (opening_refused _ 15 _ _ (lit< tt) _ e, rw e)

pub returns : goal.returns
unfolding scan
returns c = rw (sym c.in_ok-c.ensures) c.read_lists.ensures
