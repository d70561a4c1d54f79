-- What is kept while checks are made one by one.
use Rattle.std.specs.Prelude.{ℕ, ◌<◌, ◌≡◌, List, Result, Ok, Err}
use Rattle.words.specs.Lists.{All}
use Rattle.words.specs.declared.Outcome.{Outcome}
use Rattle.words.specs.Checks.{Check}

-- the outcome with another cart and step
abbrev pub named : Outcome → ℕ → ℕ → Outcome
named o cart step = record { number = o.number; cart = cart; step = step; place = o.place }

-- no check has the number of 'done'
abbrev pub Numbered : List Check → Type 0
Numbered = All (λ c. 0 < c.number)

-- a part of the work answers what it read, and the rest is still to do, or the refusal that the whole answers
abbrev pub Leaves : {R A : Type 0} → (Outcome → R) → R → (A → R) → Result A Outcome → Type 0
Leaves refuse whole rest (Ok a) = whole ≡ rest a
Leaves refuse whole rest (Err outcome) = (0 < outcome.number) × (whole ≡ refuse outcome)
