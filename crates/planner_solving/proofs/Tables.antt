-- The tables worked out for a valid sheet tell of it, so that the group of all ranks may be solved; solved, the sets ahead stand for the rule's orders.
use Prim.Native.Nat.{ℕ, suc, ◌+◌, ◌*◌, ◌/◌, ◌%◌, ◌≤◌, ◌<◌, zero-le}
use mathlib.Core.Path.{◌≡◌, refl}
use mathlib.Core.List.{List, []}
use native.Mathlib.Decide.{dec_lt}
use native.Mathlib.Nat.{mod-lt, div-add-mod}
use native.Mathlib.Omega.{arith}
use lib.ListN.{length, get_or, replicate, get_or-eq_default}
use Rattle.words.specs.Limits.{most_time}
use Rattle.sheet.specs.Valid.{steps, Valid}
use Rattle.sheet.specs.declared.Sheet.{Sheet}
use Rattle.sheet_filling.specs.inner.Filled.{sheet_in}
use Rattle.plan.proofs.Visitors.{step_valid}
use Rattle.plan_reader.proofs.ValidLaws.{valid_routes}
use Rattle.crossing.specs.inner.Tables.{crossing_by}
use Rattle.crossing.specs.Plans.{given_by}
use Rattle.crossing.proofs.Tables.{route_is}
use Rattle.crossing.proofs.Sheets.{sheet_once}
use Rattle.judge_entering.specs.inner.Times.{AtMost}
use Rattle.removal.specs.Pairs.{Unplanned}
use Rattle.removal.specs.Removal.{decisions, final_orders, by_removal}
use Rattle.removal.proofs.Starts.{none_solved}
use Rattle.planner_ranks.specs.inner.Ranks.{Ranks}
use Rattle.planner_ranks.proofs.Ranking.{ranks_are}
use Rattle.planner_visiting.specs.inner.Visiting.{RoutesOnce, Places}
use Rattle.planner_orders.specs.inner.Unplanned.{unplanned_of}
use Rattle.planner_orders.specs.inner.Stands.{StandsFor}
use Rattle.planner_orders.proofs.Sheets.{sheet_plannable, sheet_is_sized}
use Rattle.planner_orders.proofs.Settled.{holds_stands}
use Rattle.planner_groups.specs.inner.Starting.{Starts}
use Rattle.planner_trials.specs.inner.Trying.{Told, Solved, Triable}
use Rattle.planner_solving.specs.inner.Solving.{Solves}
use Rattle.sheet_table.specs.declared.Table.{Table}

module _ (zones carts : ℕ) (table : Table) (v : Valid (sheet_in zones carts table)) where
  abbrev sheet : Sheet
  sheet = sheet_in zones carts table

  abbrev U : Unplanned
  U = unplanned_of table zones carts

  pub sheet_routed : RoutesOnce sheet.steps sheet.zone
  unfolding crossing_by
  sheet_routed = record {
    routes = valid_routes sheet v;
    once = λ c l. rw (route_is sheet.steps sheet.zone [] [] c l) at (sheet_once sheet v [] c);
  }

  pub lanes_most : AtMost 15 sheet.lane
  unfolding given_by
  lanes_most c = (sheet_is_sized sheet v).ranged.lane_most c

  -- a bound of the steps' entries is one of all entries, where the unused ones are 0
  entries_most : (most : ℕ) (part : List ℕ) → length part ≡ 128
      → ((c j : ℕ) → j < steps sheet c → get_or part (8 * c + j) 0 ≤ most)
      → ((c j : ℕ) → j < 8 → steps sheet c ≤ j → get_or part (8 * c + j) 0 ≡ 0) → AtMost most part
  entries_most most part long used unused x = go (dec_lt x 128)
    where
      at_step : Dec (x % 8 < steps sheet (x / 8)) → get_or part (8 * (x / 8) + x % 8) 0 ≤ most
      at_step (yes h) = used (x / 8) (x % 8) h
      at_step (no m) = omega (arith, unused (x / 8) (x % 8) (mod-lt x (omega arith)) (omega (arith, m)))

      go : Dec (x < 128) → get_or part x 0 ≤ most
      go (yes _) = rw (div-add-mod x 8) at (at_step (dec_lt (x % 8) (steps sheet (x / 8))))
      go (no m) = omega (arith, get_or-eq_default part 0 {n = x} (omega (arith, m, long)))

  module _ {ranks visit ahead behind pairs : List ℕ} (ranked : Ranks sheet.arrival sheet.carts ranks) (places : Places sheet.steps sheet.zone visit)
      (starts : Starts table ahead behind pairs) where
    abbrev undecided : List ℕ
    undecided = replicate 128 0

    sheet_told : Told U table ranks pairs visit
    unfolding given_by
    sheet_told = record {
      is = refl;
      sheet_sized = sheet_is_sized sheet v;
      has_ranks = record { at_cart = ranks_are sheet.arrival U (λ _. refl) ranks ranked };
      has_pairs = (starts.holds zones carts (sheet_is_sized sheet v)).1;
      routed = sheet_routed;
      places = places;
      steps_16 = v.shaped.steps_16;
      zone_most =
          entries_most 23 sheet.zone v.shaped.zone_128 (λ c j h. omega (arith, (step_valid sheet v c j h).zone_below, v.zones_most))
          v.unused.no_zone;
      passing_most = entries_most most_time sheet.passing v.shaped.passing_128 (λ c j h. (step_valid sheet v c j h).passing_most) v.unused.no_passing;
    }

    start_solved : Solved U 0 [] ahead behind undecided
    start_solved = record {
      below = none_solved U (sheet_plannable sheet v);
      holds = (starts.holds zones carts (sheet_is_sized sheet v)).0;
    }

    -- "Solve the group of all ranks"
    pub sheet_triable : Triable table ranks pairs visit 0 sheet.carts ahead behind undecided
    sheet_triable = record { rising = zero-le; U = U; told = sheet_told; decided = []; solved = start_solved }

    pub sheet_solved : {ahead' behind' undecided' : List ℕ}
        → Solves table ranks pairs visit 0 sheet.carts ahead behind undecided ahead' behind' undecided'
        → StandsFor U (by_removal U) ahead'
    unfolding decisions final_orders
    sheet_solved {ahead'} {behind'} {undecided'} solves =
        holds_stands U sheet.carts sheet.carts _ ahead' behind' undecided'
        (solves.holds U sheet_told [] start_solved (suc sheet.carts) (omega arith)).holds
