-- Who visits a zone, and at which step, as tables made of the routes. Step j of cart c stands at 8 * c + j.
use Rattle.std.specs.Prelude.{ℕ, ◌+◌, ◌*◌, ◌<◌, ◌≡◌, List, get_or}
use Rattle.routes.specs.inner.Lists.{Named, Distinct}
use Rattle.plan_lists.specs.inner.Sets.{Routes}
use Rattle.crossing.specs.Plans.{route_of}

-- "A route names a zone at most once."
pub record RoutesOnce (steps zone : List ℕ) : Type 0 where
  pub routes : Routes steps zone
  pub once : (c : ℕ) → c < 16 → Distinct (route_of steps zone c)

-- 16 * z + c holds where cart c's step in zone z stands, 0 where c does not visit z
pub record Places (steps zone visit : List ℕ) : Type 0 where
  pub step_at : (c j : ℕ) → c < 16 → j < get_or steps c 0 → get_or visit (16 * get_or zone (8 * c + j) 0 + c) 0 ≡ 8 * c + j
  pub not_visited : (z c : ℕ) → c < 16 → ¬ (Named (route_of steps zone c) z) → get_or visit (16 * z + c) 0 ≡ 0
  pub below : (y : ℕ) → get_or visit y 0 < 128
