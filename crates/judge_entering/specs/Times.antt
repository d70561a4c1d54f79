-- Entering times as a table holds them.
use Rattle.std.specs.Prelude.{ℕ, ◌+◌, ◌*◌, List, get_or}

-- the entering time of step p of cart c stands at 8 * c + p
abbrev pub times_of : List ℕ → ℕ → ℕ → ℕ
times_of enter c p = get_or enter (8 * c + p) 0
