-- Both rules' orders are listed, and the better list is that of the better orders.
use Rattle.planner.specs.Planning.{ordered_by}
use Rattle.planner.specs.declared.Rule.TheVariants.{Removal, First}
use Rattle.planner.proofs.Rules.{rule_listable, rule_to_list, better_orders}
use Rattle.planner.proofs.better_orders.Goals as goal

pub lists_of-requires : goal.lists_of-requires
unfolding ordered_by
lists_of-requires c = rule_to_list Removal _ _ _ _ c.requires.0.1 (c.solve_sheet.ensures _ c.requires.0.1) _ c.requires.1

pub lists_of-requires-2 : goal.lists_of-requires-2
unfolding ordered_by
lists_of-requires-2 c = rule_to_list First _ _ _ _ c.requires.0.1 (c.first_come_orders.ensures _ c.requires.0.1) _ c.requires.1

pub returns : goal.returns
unfolding ordered_by
returns c = λ n v.
    rw c.earlier.ensures (better_orders _ _ _
    (c.lists_of.ensures n _ _ (rule_listable Removal n _ _ _ v (c.solve_sheet.ensures n v)))
    (c.lists_of-2.ensures n _ _ (rule_listable First n _ _ _ v (c.first_come_orders.ensures n v))))
