-- The carts that do not come before a cart, as a table of ranks tells it.
use Rattle.std.specs.Prelude.{ℕ, List, get_or, leb}
use Rattle.sets.specs.Counting.{set_below}

-- the set of the carts whose rank is cart c's or higher
abbrev pub no_earlier : List ℕ → ℕ → ℕ
no_earlier ranks c = set_below 16 λ d. leb (get_or ranks c 0) (get_or ranks d 0)
