-- The passing lists read off the sets of carts ahead: a cart's place in a zone's list is the number of carts ahead of it there.
use Rattle.std.specs.Prelude.{ℕ, ◌+◌, ◌*◌, ◌<◌, ◌≡◌, ◌⊎◌, List, length, get_or}
use Rattle.std.specs.Int.Count.{ones}
use Rattle.words.specs.Lists.{entries}
use Rattle.plan_lists.specs.inner.Sets.{Routes, who_visits}
use Rattle.plan.specs.declared.Orders.{Orders}

-- step j of cart c: its zone, and its cart's place there
abbrev pub IsStep : List ℕ → ℕ → ℕ → Type 0
IsStep steps c j = (c < 16) × (j < get_or steps c 0)

abbrev pub zone_at : List ℕ → ℕ → ℕ → ℕ
zone_at zone c j = get_or zone (8 * c + j) 0

abbrev pub place_at : List ℕ → ℕ → ℕ → ℕ
place_at ahead c j = ones (get_or ahead (8 * c + j) 0)

module _ (steps zone ahead : List ℕ) where
  -- no two carts have the same place in a zone
  pub record Placeable (visitors : List ℕ) : Type 0 where
    pub routes : Routes steps zone
    pub visitors_are : visitors ≡ who_visits steps zone
    pub place_below : (c j : ℕ) → IsStep steps c j → place_at ahead c j < 16
    pub apart : (c j d k : ℕ) → IsStep steps c j → IsStep steps d k → zone_at zone c j ≡ zone_at zone d k → place_at ahead c j ≡ place_at ahead d k → c ≡ d

  -- the entry y of the lists is for step j of cart c: zone z's list stands at 16 * z
  pub record EntryOf (c j y : ℕ) : Type 0 where
    pub is_step : IsStep steps c j
    pub at : y ≡ 16 * zone_at zone c j + place_at ahead c j

  -- the carts of the steps that stand below x are in the lists, each at its place; the other entries are 0
  pub record PlacedTo (x : ℕ) (list : List ℕ) : Type 0 where
    pub list_384 : length list ≡ 384
    pub placed : (c j y : ℕ) → EntryOf c j y → 8 * c + j < x → get_or list y 0 ≡ c
    pub others : (y : ℕ) → (get_or list y 0 ≡ 0) ⊎ ((c : ℕ) × (j : ℕ) × EntryOf c j y × (8 * c + j < x))

  -- each zone's count is the number of its visitors, every cart is at its place, and the sets are those that the lists were read off
  pub record Listed (visitors : List ℕ) (r : Orders) : Type 0 where
    pub count_is : r.count ≡ entries 24 0 (λ z. ones (get_or visitors z 0))
    pub list_is : PlacedTo 128 r.list
    pub ahead_is : r.ahead ≡ ahead
