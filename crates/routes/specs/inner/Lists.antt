-- What a list of numbers names, as properties, with their tests.
use Rattle.std.specs.Prelude.{ℕ, ◌<◌, ◌≡◌, ◌≢◌, Bool, not, List, length, get_or, eqb}
use Rattle.words.specs.Lists.{any_below}
use Rattle.routes.specs.Lists.{all_below}

-- the list names x, at a place
abbrev pub Named : List ℕ → ℕ → Type 0
Named list x = (e : ℕ) × (e < length list) × (get_or list e 0 ≡ x)

-- whether everything that the list names passes the test
abbrev pub all_named : (ℕ → Bool) → List ℕ → Bool
all_named test list = all_below (λ e. test (get_or list e 0)) (length list)

-- the list names nothing twice
abbrev pub Distinct : List ℕ → Type 0
Distinct list = (e k : ℕ) → k < length list → e < k → get_or list e 0 ≢ get_or list k 0

-- the test of Distinct
abbrev pub is_distinct : List ℕ → Bool
is_distinct list = not (any_below (λ k. any_below (λ e. eqb (get_or list e 0) (get_or list k 0)) k) (length list))
