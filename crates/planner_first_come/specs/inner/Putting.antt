-- How far a table of sets ahead is put: for each step the visitors of its zone, but for those that do not come before its cart.
use Rattle.std.specs.Prelude.{ℕ, ◌+◌, ◌*◌, ◌<◌, ◌≡◌, List, length, get_or}
use Rattle.sets.specs.inner.Member.{Less}
use Rattle.sheet_table.specs.inner.Parts.{steps}
use Rattle.planner_groups.specs.inner.Starting.{visiting_at}
use Rattle.planner_first_come.specs.inner.Earlier.{no_earlier}
use Rattle.sheet_table.specs.declared.Table.{Table}

module _ (sheet : Table) (visitors ranks : List ℕ) where
  -- step j of cart c is put
  abbrev pub Put : ℕ → ℕ → List ℕ → Type 0
  Put c j ahead = Less (visiting_at sheet visitors (8 * c + j)) (no_earlier ranks c) (get_or ahead (8 * c + j) 0)

  -- all steps of the carts before c, and the first j of cart c
  pub record PutTo (c j : ℕ) (ahead : List ℕ) : Type 0 where
    pub ahead_128 : length ahead ≡ 128
    pub earlier : (d i : ℕ) → d < c → i < get_or (steps sheet) d 0 → Put d i ahead
    pub own : (i : ℕ) → i < j → Put c i ahead
