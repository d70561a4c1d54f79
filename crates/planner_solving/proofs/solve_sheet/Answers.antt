-- The sheet's tables are worked out, and the group of all ranks is solved over them.
use Rattle.plan_reader.proofs.ValidLaws.{valid_routes}
use Rattle.planner_solving.proofs.Tables.{sheet_routed, lanes_most, sheet_triable, sheet_solved}
use Rattle.planner_solving.proofs.solve_sheet.Goals as goal

pub start_orders-started-requires : goal.start_orders-started-requires
start_orders-started-requires c = record {
  routes = valid_routes _ c.requires.0.1;
  lane_most = lanes_most _ _ _ c.requires.0.1;
  visitors_are = c.requires.1;
}

pub ranks-requires : goal.ranks-requires
ranks-requires c = c.requires.0.1.carts_most

pub visit_places-requires : goal.visit_places-requires
visit_places-requires c = sheet_routed _ _ _ c.requires.0.1

pub solve-requires : goal.solve-requires
solve-requires c = rw c.start_orders-started.ensures.1
    (sheet_triable _ _ _ c.requires.0.1 c.ranks.ensures c.visit_places.ensures c.start_orders-started.ensures.0)

pub returns : goal.returns
returns c = λ n v. sheet_solved n _ _ v c.ranks.ensures c.visit_places.ensures c.start_orders-started.ensures.0 (rw c.start_orders-started.ensures.1 at c.solve.ensures)
