-- "Each zone lists exactly the carts whose routes name it, once each.": of a plan's lists.
use Rattle.std.specs.Prelude.{ℕ, Bool, ◌&&◌, List, [], length, get_or}
use Rattle.routes.specs.Lists.{all_below, is_named}
use Rattle.routes.specs.inner.Lists.{Named, all_named, Distinct, is_distinct}
use Rattle.routes.specs.Plans.{list_of}

-- whether each list names, once each, only numbers whose list among the others names its own number
abbrev pub name_back : List (List ℕ) → List (List ℕ) → Bool
name_back lists others =
    all_below (λ z. all_named (λ c. is_named (get_or others c []) z) (get_or lists z []) && is_distinct (get_or lists z [])) (length lists)

module _ (routes lists : List (List ℕ)) where
  -- "Each zone lists exactly the carts whose routes name it, once each." "A route names a zone at most once."
  pub record Complete : Type 0 where
    pub only_visitors : (z c : ℕ) → Named (list_of lists z) c → Named (get_or routes c []) z
    pub all_visitors : (z c : ℕ) → Named (get_or routes c []) z → Named (list_of lists z) c
    pub once : (z : ℕ) → Distinct (list_of lists z)
    pub route_once : (c : ℕ) → Distinct (get_or routes c [])

  -- the test of Complete
  unfoldable pub is_complete : Bool
  is_complete = name_back lists routes && name_back routes lists
