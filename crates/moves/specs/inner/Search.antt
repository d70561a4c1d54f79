-- What a search below a bound answers, as a property.
use Rattle.std.specs.Prelude.{ℕ, ◌<◌, ◌≡◌, Bool, true, false}
use Rattle.std.proofs.Math.Option.{Option, none, some}

-- what the answer says
abbrev pub IsLowest : (ℕ → Bool) → ℕ → Option ℕ → Type 0
IsLowest test n none = (d : ℕ) → d < n → test d ≡ false
IsLowest test n (some c) = (c < n) × (test c ≡ true) × ((d : ℕ) → d < c → test d ≡ false)
