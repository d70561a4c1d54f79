-- Candidates as tables hold them. Step j of cart c stands at 8 * c + j: there `undecided` holds the set of the carts with which the step is undecided.
-- `visit` holds at 16 * z + c the place of cart c's step in zone z, and `rank` the carts' ranks.
use Rattle.std.specs.Prelude.{ℕ, ◌+◌, ◌-◌, ◌*◌, ◌/◌, ◌%◌, ◌≤◌, ◌<◌, ◌≡◌, Bool, true, false, List, [], length, get_or, ℤ, pos, negsuc, ◌-ℤ◌, ◌≤ℤ◌, ltb}
use Rattle.words.specs.Limits.{most_time}
use Rattle.words.specs.inner.Limits.{latest_entering, latest_leaving, latest_clear, most_taken_off}
use Rattle.sets.specs.inner.Member.{has}
use Rattle.routes.specs.inner.Lists.{Distinct}
use Rattle.judge_entering.specs.inner.Times.{AtMost}
use Rattle.removal.specs.Pairs.{Unplanned, Order, rank, is_pair}
use Rattle.removal.specs.Present.{is_undecided}
use Rattle.removal.specs.Cost.{level}

pub record Tables : Type 0 where
  pub zone : List ℕ
  pub cross : List ℕ
  pub passing : List ℕ
  pub rank : List ℕ
  pub visit : List ℕ
  pub undecided : List ℕ
  pub enter : List ℕ
  pub spare : List ℕ

abbrev pub tables_of : List ℕ → List ℕ → List ℕ → List ℕ → List ℕ → List ℕ → List ℕ → List ℕ → Tables
tables_of zone cross passing rank visit undecided enter spare =
    record {
      zone = zone;
      cross = cross;
      passing = passing;
      rank = rank;
      visit = visit;
      undecided = undecided;
      enter = enter;
      spare = spare;
    }

-- the ranges of what the tables hold
pub record InRange (T : Tables) : Type 0 where
  pub zone_most : AtMost 23 T.zone
  pub cross_most : AtMost most_time T.cross
  pub passing_most : AtMost most_time T.passing
  pub visit_most : AtMost 127 T.visit
  pub enter_most : AtMost latest_entering T.enter
  pub spare_most : AtMost latest_leaving T.spare

-- a cost: `clear` is "A's entering + passing + gap", `latest` is B's entering and spare time. Its exact value, and its range
pub record CostIs (clear latest : ℕ) (r : ℤ) : Type 0 where
  pub value : r ≡ pos clear -ℤ pos latest
  pub least : negsuc (most_taken_off - 1) ≤ℤ r
  pub most : r ≤ℤ pos latest_clear

-- "ties go to the lower zone, then lower rank of A, then of B": whether they go to cart a before the cart of the step at x, not to d before that of y
unfoldable pub wins_tie : List ℕ → List ℕ → ℕ → ℕ → ℕ → ℕ → Bool
wins_tie zone rank x a y d =
    level (ltb (get_or zone x 0) (get_or zone y 0)) (ltb (get_or zone y 0) (get_or zone x 0))
    (level (ltb (get_or rank a 0) (get_or rank d 0)) (ltb (get_or rank d 0) (get_or rank a 0))
    (ltb (get_or rank (x / 8) 0) (get_or rank (y / 8) 0)))

module _ (T : Tables) where
  -- cart a before the cart of the step at x, in the step's zone
  abbrev pub order_at : ℕ → ℕ → Order
  order_at x a = record { zone = get_or T.zone x 0; first = a; second = x / 8 }

  -- a candidate at a step below n
  pub record CandidateBelow (n : ℕ) (o : Order) : Type 0 where
    pub step : ℕ
    pub step_below : step < n
    pub still_undecided : has (get_or T.undecided step 0) o.first ≡ true
    pub is_order : o ≡ order_at step o.first

module _ (U : Unplanned) where
  abbrev pub route : ℕ → List ℕ
  route c = get_or U.routes c []

  -- these are U's tables of routes, gaps and ranks
  pub record Tabled (zone cross passing ranks visit : List ℕ) : Type 0 where
    pub carts_most : U.carts ≤ 16
    pub steps_most : (c : ℕ) → length (route c) ≤ 8
    pub present : (c j : ℕ) → j < length (route c) → c < U.carts
    pub once : (c : ℕ) → Distinct (route c)
    pub zone_below : (c j : ℕ) → j < length (route c) → get_or (route c) j 0 < U.zones
    pub zone_is : (c j : ℕ) → j < length (route c) → get_or zone (8 * c + j) 0 ≡ get_or (route c) j 0
    pub visit_is : (c j : ℕ) → j < length (route c) → get_or visit (16 * get_or (route c) j 0 + c) 0 ≡ 8 * c + j
    pub passing_is : (c j : ℕ) → j < length (route c) → get_or passing (8 * c + j) 0 ≡ U.given.passing c j
    pub cross_is : (z : ℕ) → z < U.zones → get_or cross z 0 ≡ U.given.cross z
    pub rank_is : (c : ℕ) → c < U.carts → get_or ranks c 0 ≡ rank U c

  -- the tables tell U's costs: where something is undecided there is a step of U, and a pair
  pub record Costable (T : Tables) : Type 0 where
    pub tabled : Tabled T.zone T.cross T.passing T.rank T.visit
    pub is_step : (x a : ℕ) → x < 128 → has (get_or T.undecided x 0) a ≡ true → x % 8 < length (route (x / 8))
    pub are_pairs : (x a : ℕ) → x < 128 → has (get_or T.undecided x 0) a ≡ true → is_pair U (get_or T.zone x 0) a (x / 8) ≡ true

  -- the table holds for each step the carts with which it is undecided in a group, and nothing elsewhere
  pub record HoldsUndecided (low high : ℕ) (decided : List Order) (undecided : List ℕ) : Type 0 where
    pub at_step : (c j d : ℕ) → j < length (route c) → has (get_or undecided (8 * c + j) 0) d ≡ is_undecided U low high decided (get_or (route c) j 0) d c
    pub elsewhere : (x d : ℕ) → x < 128 → ¬ (x % 8 < length (route (x / 8))) → has (get_or undecided x 0) d ≡ false
