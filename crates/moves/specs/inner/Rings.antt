-- The ring that any rule of pointing comes to, as a property.
use Rattle.std.specs.Prelude.{ℕ, ◌<◌, ◌≡◌, List, [], ◌∷◌}
use Rattle.moves.specs.System.{System}
use Rattle.moves.specs.inner.Moves.{Held, Waits}
use Rattle.moves.specs.Rings.{follow}

-- a rule of pointing at state s: each cart that is held waits for the cart that it points to
abbrev pub Points : System → List ℕ → (ℕ → ℕ) → Type 0
Points S s to = (c : ℕ) → Held S s c → Waits S s c (to c)

module _ (to : ℕ → ℕ) where
  -- from c pointing leads through `rest`, each above `first`, and then to `first`
  abbrev pub Leads : ℕ → ℕ → List ℕ → Type 0
  Leads first c [] = to c ≡ first
  Leads first c (d ∷ rest) = (to c ≡ d) × (first < d) × Leads first d rest

  -- the ring that pointing comes to from c
  pub record Ring (c first : ℕ) (rest : List ℕ) : Type 0 where
    pub far : ℕ
    pub comes : follow to far c ≡ first
    pub round : Leads first first rest
