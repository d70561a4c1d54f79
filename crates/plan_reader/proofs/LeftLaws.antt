-- How the scan of the lists is left says how the whole pass ends: with its refusal, with 20, with 21, or with the orders.
use Prim.Native.Nat.{ℕ}
use mathlib.Core.Path.{◌≡◌}
use mathlib.Core.List.{List}
use lib.ListN.{length}
use borrow.Author.Tests.{eq-eqb, ne_eqb}
use Rattle.std.specs.Prelude.{Some, None, Ok, Err}
use Rattle.words.specs.Checks.{refused}
use Rattle.words.specs.declared.Outcome.{Outcome}
use Rattle.plan.specs.declared.Orders.{Orders}
use Rattle.plan_lists.specs.inner.Sets.{who_visits, may_lead}
use Rattle.plan_lists.specs.inner.Scan.{no_lists, lists_from, read_to}
use Rattle.plan_lists.specs.declared.ListScan.{ListScan}
use Rattle.plan_reader.specs.inner.Scan.{ahead_of, orders_in, finish, from_lists}

module _ (p : List ℕ) (zones : ℕ) (steps zone lane : List ℕ) (at : ℕ) (who lead : List ℕ)
    (visits : who ≡ who_visits steps zone) (leads : lead ≡ may_lead lane) where
  pub lists_refused : (outcome : Outcome) → lists_from p who lead zones 0 no_lists at ≡ Err outcome → from_lists p zones steps zone lane at ≡ Err outcome
  unfolding from_lists
  lists_refused outcome e = rw (← visits, ← leads, e)

  module _ (r : ListScan) (orders : Orders) (before : List ℕ) (read : lists_from p who lead zones 0 no_lists at ≡ read_to r orders before) where
    pub lists_long : (r.at ≡ length p → ⊥) → from_lists p zones steps zone lane at ≡ Err (refused 20 r.at)
    unfolding from_lists finish
    lists_long n = rw (← visits, ← leads, read, ne_eqb _ _ n)

    pub lists_late : r.at ≡ length p → (place : ℕ) → r.late ≡ Some place → from_lists p zones steps zone lane at ≡ Err (refused 21 place)
    unfolding from_lists finish
    lists_late e place l = rw (← visits, ← leads, read, eq-eqb _ _ e, l)

    pub lists_read : r.at ≡ length p → r.late ≡ None → (ahead : List ℕ) → ahead ≡ ahead_of steps zone before
        → from_lists p zones steps zone lane at ≡ Ok (orders_in orders.count orders.list ahead)
    unfolding from_lists finish
    lists_read e l ahead a = rw (← visits, ← leads, read, eq-eqb _ _ e, l, a)
