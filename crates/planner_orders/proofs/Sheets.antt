-- A valid sheet can be planned, and has a sheet's sizes and times.
use mathlib.Core.List.{[]}
use native.Mathlib.Omega.{arith}
use Rattle.sheet.specs.Valid.{Valid}
use Rattle.sheet.specs.declared.Sheet.{Sheet}
use Rattle.plan.proofs.Visitors.{step_cart, step_valid}
use Rattle.crossing.specs.inner.Tables.{crossing_by}
use Rattle.crossing.specs.Plans.{given_by}
use Rattle.crossing.proofs.Sheets.{step_is, sheet_once, sheet_ranged}
use Rattle.removal.specs.inner.Plannable.{Plannable}
use Rattle.planner_orders.specs.inner.Unplanned.{sheet_unplanned, SheetSized}

pub sheet_plannable : (sheet : Sheet) → Valid sheet → Plannable (sheet_unplanned sheet)
unfolding crossing_by given_by
sheet_plannable sheet v = record {
  once = sheet_once sheet v [];
  zone_below = λ c z (j, h, at). let (below, there) = step_is sheet v [] c j h in omega (arith, (step_valid sheet v c j below).zone_below);
  cart_below = λ c z (j, h, at). step_cart sheet v c j (step_is sheet v [] c j h).0;
  in_lane = λ d c l below lane. (v.cart c l).in_lane d below lane;
}

pub sheet_is_sized : (sheet : Sheet) → Valid sheet → SheetSized (sheet_unplanned sheet)
unfolding crossing_by given_by
sheet_is_sized sheet v = record {
  able = sheet_plannable sheet v;
  zones_most = v.zones_most;
  carts_most = v.carts_most;
  ranged = let r = sheet_ranged sheet v [] in record {
    carts_most = r.carts_most;
    steps_most = r.steps_most;
    lane_most = r.lane_most;
    arrival_most = r.arrival_most;
    passing_most = r.passing_most;
    travel_most = r.travel_most;
    follow_most = r.follow_most;
    cross_most = r.cross_most;
  };
}
