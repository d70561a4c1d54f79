-- The largest numbers of document 01. Abbreviations, so that `omega` sees the numerals.
use Rattle.std.specs.Prelude.{ℕ}

-- "the follow gap and the cross gap (.. 0 to 60,000)", "passing time, travel time (.. 0 to 60,000)"
abbrev pub most_time : ℕ
most_time = 60000

-- "arrival (4 bytes, 0 to 3,600,000)"
abbrev pub latest_arrival : ℕ
latest_arrival = 3600000
