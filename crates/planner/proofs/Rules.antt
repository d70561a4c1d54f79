-- The orders by each rule are passable, over the sheet's own routes; and of two plans the better one's lists are the lists of the better orders.
use mathlib.Core.Path.{◌≡◌, sym, ap, ap₂, subst, ◌∙◌}
use mathlib.Core.Bool.{Bool, true, false}
use mathlib.Core.List.{List}
use Prim.Native.Nat.{ℕ}
use lib.Dec.{ltb}
use Rattle.words.specs.Lists.{pick}
use Rattle.routes.specs.Crossing.{Crossing}
use Rattle.sheet.specs.Valid.{Valid}
use Rattle.sheet.specs.declared.Sheet.{Sheet}
use Rattle.sheet_filling.specs.inner.Filled.{sheet_in}
use Rattle.plan_lists.specs.inner.Sets.{who_visits}
use Rattle.sheet_table.specs.inner.Parts as parts
use Rattle.removal.specs.Pairs.{Unplanned}
use Rattle.removal.specs.inner.Passable.{Passable}
use Rattle.removal.specs.inner.Plannable.{Plannable}
use Rattle.removal.specs.Removal.{by_removal}
use Rattle.removal.specs.FirstCome.{first_come}
use Rattle.removal.proofs.Final.{final_passable}
use Rattle.removal.proofs.FirstCome.{first_passable}
use Rattle.planner_orders.specs.inner.Unplanned.{ordered}
use Rattle.planner_orders.specs.inner.Stands.{StandsFor}
use Rattle.planner_orders.proofs.Sheets.{sheet_plannable}
use Rattle.planner.specs.Planning.{unplanned, is_first_earlier, ordered_by}
use Rattle.planner.specs.inner.Lists.{OfCrossing, ByRule, Listable, ToList}
use Rattle.planner.specs.declared.OrdersPlanned.{OrdersPlanned}
use Rattle.planner.specs.declared.Rule.{Rule}
use Rattle.planner.specs.declared.Rule.TheVariants.{Removal, First, Better}
use Rattle.sheet_table.specs.declared.Table.{Table}

pub as_ordered : (U : Unplanned) (X : Crossing) → Passable U X → X ≡ ordered U X.before
as_ordered U X good =
    ap (λ (routes : List (List ℕ)). record { routes = routes; front = X.front; before = X.before }) good.routed
    ∙ ap (λ (front : ℕ → ℕ). record { routes = U.routes; front = front; before = X.before }) good.fronted

module _ (sheet : Sheet) (v : Valid sheet) where
  able : Plannable (unplanned sheet)
  able = sheet_plannable sheet v

  pub rule_passable : (rule : Rule) → Passable (unplanned sheet) (ordered_by sheet rule)
  unfolding ordered_by
  rule_passable Removal = final_passable (unplanned sheet) able
  rule_passable First = first_passable (unplanned sheet) able
  rule_passable Better = go (is_first_earlier sheet)
    where
      go : (b : Bool) → Passable (unplanned sheet) (pick b (first_come (unplanned sheet)) (by_removal (unplanned sheet)))
      go true = first_passable (unplanned sheet) able
      go false = final_passable (unplanned sheet) able

-- so a table that stands for a rule's orders can be listed
module _ (rule : Rule) (n m : ℕ) (table : Table) (ahead : List ℕ) (v : Valid (sheet_in n m table))
    (stands : StandsFor (unplanned (sheet_in n m table)) (ordered_by (sheet_in n m table) rule) ahead) where
  pub rule_listable : Listable table ahead n m (ordered_by (sheet_in n m table) rule)
  rule_listable = record { valid = v; passable = rule_passable (sheet_in n m table) v rule; stands = stands }

  pub rule_to_list : (visitors : List ℕ) → visitors ≡ who_visits (parts.steps table) (parts.zone table) → ToList table visitors ahead
  rule_to_list visitors is =
      record { zones = n; carts = m; orders = ordered_by (sheet_in n m table) rule; listable = rule_listable; visitors_are = is }

-- "works out both and writes the one which finishes earlier"
pub better_orders : (sheet : Sheet) (removal first : OrdersPlanned) → ByRule Removal sheet removal → ByRule First sheet first
    → ByRule Better sheet (pick (ltb first.finish removal.finish) first removal)
unfolding ordered_by
better_orders sheet removal first by_rule by_arrival =
    subst (λ (b : Bool). OfCrossing sheet (ordered_by sheet Better) (pick b first removal)) tested (go (is_first_earlier sheet))
  where
    tested : is_first_earlier sheet ≡ ltb first.finish removal.finish
    tested = ap₂ ltb (sym by_arrival.finish_is) (sym by_rule.finish_is)

    go : (b : Bool) → OfCrossing sheet (pick b (first_come (unplanned sheet)) (by_removal (unplanned sheet))) (pick b first removal)
    go true = by_arrival
    go false = by_rule
