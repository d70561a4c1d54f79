-- "Finish is the largest leaving time": of each cart that of its last zone, as the tables tell it.
use Rattle.std.specs.Prelude.{ℕ, ◌+◌, ◌*◌, ◌-◌, ◌≤◌, ◌<◌, List, get_or, eqb}
use Rattle.words.specs.Lists.{pick}
use Rattle.words.specs.Limits.{most_time}
use Rattle.words.specs.inner.Limits.{latest_entering}
use Rattle.judge_entering.specs.inner.Times.{AtMost}

-- the place of cart c's last step
abbrev pub last_at : List ℕ → ℕ → ℕ
last_at steps c = 8 * c + (get_or steps c 0 - 1)

-- "A cart's leaving time of its last zone is entering plus passing"; 0 for an absent cart
abbrev pub last_leaving : List ℕ → List ℕ → List ℕ → ℕ → ℕ
last_leaving steps passing enter c =
    pick (eqb (get_or steps c 0) 0) 0 (get_or enter (last_at steps c) 0 + get_or passing (last_at steps c) 0)

pub record Leavable (steps passing enter : List ℕ) : Type 0 where
  pub steps_most : (c : ℕ) → c < 16 → get_or steps c 0 ≤ 8
  pub passing_most : AtMost most_time passing
  pub enter_most : AtMost latest_entering enter
