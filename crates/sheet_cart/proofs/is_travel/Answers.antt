-- The code's tests, one after the other, are the definition's bound.
use Prim.Native.Nat.{◌<◌}
use mathlib.Core.Path.{sym}
use native.Mathlib.Omega.{arith}
use borrow.Author.Tests.{eqb-true, leb-true, eq-eqb, ne_eqb, le-leb, lt-leb}
use Rattle.words.proofs.Tests.{same_test}
use Rattle.sheet.specs.Checks.{most_travel}
use Rattle.sheet_cart.proofs.PartLaws.{travel_most}
use Rattle.sheet_cart.proofs.is_travel.Goals as goal

pub returns-then-t-gt-MOST_TIME : goal.returns-then-t-gt-MOST_TIME
returns-then-t-gt-MOST_TIME c = let most = travel_most c.args.j c.args.k in
    let above : most_travel c.args.j c.args.k < c.args.t = omega (arith, most) in
    sym (lt-leb _ _ above)

pub returns-then-j-k : goal.returns-then-j-k
returns-then-j-k c = let t = c.args.t in
    rw (eq-eqb _ _ c.if-j-k.true)
    (same_test _ _ (λ e. le-leb t 0 (omega (arith, eqb-true t 0 e))) (λ e. eq-eqb t 0 (omega (arith, leb-true t 0 e))))

pub returns-else-j-k : goal.returns-else-j-k
returns-else-j-k c = rw (ne_eqb _ _ c.if-j-k.false) (sym (le-leb _ _ c.if-t-gt-MOST_TIME.false))
