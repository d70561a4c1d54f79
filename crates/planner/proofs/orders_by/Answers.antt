-- The final orders and the sets of those that come before stand for what their rules give; the better of two is asked for.
use Rattle.planner.specs.Planning.{ordered_by}
use Rattle.planner.specs.declared.Rule.TheVariants.{Removal, First}
use Rattle.planner.proofs.Rules.{rule_listable, rule_to_list}
use Rattle.planner.proofs.orders_by.Goals as goal

pub lists_of-requires : goal.lists_of-requires
unfolding ordered_by
lists_of-requires c = rule_to_list Removal _ _ _ _ c.requires.0.1 (c.solve_sheet.ensures _ c.requires.0.1) _ c.requires.1

pub lists_of-requires-in-First : goal.lists_of-requires-in-First
unfolding ordered_by
lists_of-requires-in-First c = rule_to_list First _ _ _ _ c.requires.0.1 (c.first_come_orders.ensures _ c.requires.0.1) _ c.requires.1

pub returns-in-Removal : goal.returns-in-Removal
unfolding ordered_by
returns-in-Removal c = λ n v. rw c.in-Removal.is (c.lists_of.ensures n _ _ (rule_listable Removal n _ _ _ v (c.solve_sheet.ensures n v)))

pub returns-in-First : goal.returns-in-First
unfolding ordered_by
returns-in-First c = λ n v. rw c.in-First.is (c.lists_of-in-First.ensures n _ _ (rule_listable First n _ _ _ v (c.first_come_orders.ensures n v)))

pub returns-in-Better : goal.returns-in-Better
returns-in-Better c = rw c.in-Better.is c.better_orders.ensures
