-- The numbers that follow from document 01's largest: all below 2 ^ 31. Abbreviations, so that `omega` sees the numerals.
use Rattle.std.specs.Prelude.{ℕ, ◌+◌}
use Rattle.words.specs.Limits.{most_time}

-- of 128 steps each after the first is entered at most twice most_time after one before it: latest_arrival + 127 * 120,000
abbrev pub latest_entering : ℕ
latest_entering = 18840000

-- "Finish is the largest leaving time .. never above 18,900,000": latest_entering + most_time
abbrev pub latest_leaving : ℕ
latest_leaving = 18900000

-- of a cost, "A's entering + passing + gap"
abbrev pub latest_clear : ℕ
latest_clear = latest_leaving + most_time

-- of a cost, what is taken off: "B's entering", and "B's spare time", at most the finish
abbrev pub most_taken_off : ℕ
most_taken_off = latest_entering + latest_leaving
