-- What is kept while groups are solved, lower ranks first.
use Rattle.std.specs.Prelude.{ℕ, ◌≡◌, ◌⊎◌, true, false, List}
use Rattle.times.specs.Running.{is_out}
use Rattle.removal.specs.Pairs.{Unplanned, Order, is_decided, PairIn}
use Rattle.removal.specs.Present.{present}

-- of no pair are both directions decided
abbrev pub OneWay : List Order → Type 0
OneWay decided = (z d c : ℕ) → is_decided decided z d c ≡ true → is_decided decided z c d ≡ false

-- the ranks below `high` are solved: the orders are of pairs of these, and with them present the moves have no cycle
pub record SolvedBelow (U : Unplanned) (high : ℕ) (decided : List Order) : Type 0 where
  pub of_pairs : (z d c : ℕ) → is_decided decided z d c ≡ true → PairIn U 0 high z d c
  pub one_way : OneWay decided
  pub comes_out : is_out (present U high high decided) ≡ true

-- a trial of the group, begun with the orders `before`: it has added orders of the group's pairs, and the moves have no cycle
pub record Trying (U : Unplanned) (low high : ℕ) (before decided : List Order) : Type 0 where
  pub kept : (z d c : ℕ) → is_decided before z d c ≡ true → is_decided decided z d c ≡ true
  pub added : (z d c : ℕ) → is_decided decided z d c ≡ true → (is_decided before z d c ≡ true) ⊎ PairIn U low high z d c
  pub one_way : OneWay decided
  pub comes_out : is_out (present U low high decided) ≡ true
