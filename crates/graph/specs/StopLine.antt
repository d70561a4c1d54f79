-- "the published graph with the stop line set as a zone ahead of the first; its room is free as soon as a cart enters its first real zone"
use Rattle.std.specs.Prelude.{ℕ, ◌+◌, Bool, List, [], ◌∷◌, ◌++◌, length, get_or}
use Rattle.words.specs.Lists.{pick, entries, each}
use Rattle.routes.specs.Crossing.{Crossing}
use Rattle.routes.specs.Lanes.{is_on_lane}
use Rattle.routes.specs.Plans.{list_of, plan}

-- a route with a zone ahead of its first; an absent cart has none still
abbrev pub ahead_of_first : ℕ → List ℕ → List ℕ
ahead_of_first line [] = []
ahead_of_first line (z ∷ route) = line ∷ z ∷ route

-- the numbers below n that pass the test, in rising order
abbrev pub passing : ℕ → (ℕ → Bool) → List ℕ
passing n test = each n 0 λ c. pick (test c) (c ∷ []) []

-- the stop line of cart c's lane, as a zone past the others
abbrev pub line_of : ℕ → (ℕ → ℕ) → ℕ → ℕ
line_of zones lane c = zones + lane c

abbrev pub lined_routes : ℕ → (ℕ → ℕ) → List (List ℕ) → List (List ℕ)
lined_routes zones lane routes = entries (length routes) 0 λ c. ahead_of_first (line_of zones lane c) (get_or routes c [])

-- the carts that come to the stop line of lane l: "On one lane, a lower cart number is in front."
abbrev pub line_list : (ℕ → ℕ) → List (List ℕ) → ℕ → List ℕ
line_list lane routes l = passing (length routes) (is_on_lane lane routes l)

-- carts on so many lanes, over so many zones
module _ (lanes zones : ℕ) (lane : ℕ → ℕ) (routes lists : List (List ℕ)) where
  abbrev pub lined_lists : List (List ℕ)
  lined_lists = entries zones 0 (list_of lists) ++ entries lanes 0 (line_list lane routes)

  -- a stop line is a zone like any other, so nobody is in front of another outside
  unfoldable pub with_stop_line : Crossing
  with_stop_line = plan (λ c. 0) (lined_routes zones lane routes) lined_lists
