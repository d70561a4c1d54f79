-- Bytes that stand at a place: what reading a field is the way back from.
use Rattle.std.specs.Prelude.{ℕ, ◌+◌, ◌≤◌, ◌<◌, ◌≡◌, List, length, get_or}

-- the entries of l stand in s from a place on
pub record Stands (s : List ℕ) (at : ℕ) (l : List ℕ) : Type 0 where
  pub inside : at + length l ≤ length s
  pub same : (k : ℕ) → k < length l → get_or s (at + k) 0 ≡ get_or l k 0
