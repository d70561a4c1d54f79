-- The sets that the lists are held to: who visits each zone, who may be ahead of each cart, who is seen in a list.
use Rattle.std.specs.Prelude.{ℕ, ◌+◌, ◌*◌, ◌^◌, ◌≤◌, ◌<◌, Bool, not, ◌&&◌, ◌||◌, List, get_or, leb, eqb, Option, Some, None}
use Rattle.words.specs.Lists.{pick, any_below, entries}
use Rattle.sets.specs.inner.Member.{has}
use Rattle.sets.specs.Counting.{set_below}

-- routes of at most 8 steps over 24 zones, where step j of cart i stands at 8 * i + j
pub record Routes (steps zone : List ℕ) : Type 0 where
  pub few : (i : ℕ) → get_or steps i 0 ≤ 8
  pub known : (i j : ℕ) → j < get_or steps i 0 → get_or zone (8 * i + j) 0 < 24

-- lanes 0 to 15
abbrev pub Lanes : List ℕ → Type 0
Lanes lane = (i : ℕ) → get_or lane i 0 ≤ 15

-- sets of carts 0 to 15
abbrev pub Sets : List ℕ → Type 0
Sets sets = (k : ℕ) → get_or sets k 0 < 2 ^ 16

-- whether zone z is among the first k of cart i's route
abbrev pub names : List ℕ → ℕ → ℕ → ℕ → Bool
names zone k i z = any_below (λ j. eqb (get_or zone (8 * i + j) 0) z) k

-- for each zone the carts whose routes name it
unfoldable pub who_visits : List ℕ → List ℕ → List ℕ
who_visits steps zone = entries 24 0 λ z. set_below 16 λ i. names zone (get_or steps i 0) i z

-- all carts but those of a lane from number i on
abbrev pub all_but_from : List ℕ → ℕ → ℕ → ℕ
all_but_from lane i l = set_below 16 λ d. not (leb i d && eqb (get_or lane d 0) l)

-- for each cart the carts that may be ahead of it: all but the higher-numbered of its lane
unfoldable pub may_lead : List ℕ → List ℕ
may_lead lane = entries 16 0 λ i. all_but_from lane (i + 1) (get_or lane i 0)

-- the set and cart i
abbrev pub with_cart : ℕ → ℕ → ℕ
with_cart seen i = set_below 16 λ d. has seen d || eqb d i

-- the first byte with a cart that has one ahead which may not be: the one known, else `at` where that is so here
unfoldable pub first_late : Option ℕ → ℕ → ℕ → ℕ → Option ℕ
first_late (Some known) at seen lead = Some known
first_late None at seen lead = pick (any_below (λ d. has seen d && not (has lead d)) 16) (Some at) None
