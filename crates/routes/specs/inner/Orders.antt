-- What the orders of a crossing can be: of visitors only, deciding every pair of a zone, by a rank, strict.
use Rattle.std.specs.Prelude.{ℕ, ◌<◌, ◌≡◌, ◌≢◌, ◌⊎◌, Bool, true, false, ◌&&◌, ltb}
use Rattle.routes.specs.inner.Lists.{Distinct}
use Rattle.routes.specs.Crossing.{Crossing, route}
use Rattle.routes.specs.inner.Crossing.{Visits}
use Rattle.routes.specs.Lanes.{is_front}

module _ (X : Crossing) where
  -- "A route names a zone at most once."
  abbrev pub NamesOnce : Type 0
  NamesOnce = (c : ℕ) → Distinct (route X c)

  -- only carts whose routes name a zone go before others there
  abbrev pub OnlyVisitors : Type 0
  OnlyVisitors = (z d c : ℕ) → X.before z d c ≡ true → Visits X d z

  -- of each two carts whose routes name zone z, one goes before the other
  abbrev pub Decided : ℕ → Type 0
  Decided z = (c d : ℕ) → Visits X c z → Visits X d z → c ≢ d → (X.before z c d ≡ true) ⊎ (X.before z d c ≡ true)

  -- the orders agree with a rank of the carts
  abbrev pub ByRank : (ℕ → ℕ) → Type 0
  ByRank rank = (z d c : ℕ) → X.before z d c ≡ true → rank d < rank c

  -- and so do the lanes: whoever is next in front has a lower rank
  abbrev pub LanesRise : (ℕ → ℕ) → Type 0
  LanesRise rank = (d c : ℕ) → is_front X d c ≡ true → rank d < rank c

  -- the same routes, with the orders among carts of rank below `low` only
  abbrev pub orders_below : (ℕ → ℕ) → ℕ → Crossing
  orders_below rank low = record { routes = X.routes; front = X.front; before = λ z d c. (ltb (rank d) low && ltb (rank c) low) && X.before z d c }

-- a test of pairs puts the members in a strict order
pub record StrictOrder (Member : ℕ → Type 0) (before : ℕ → ℕ → Bool) : Type 0 where
  pub irreflexive : (c : ℕ) → Member c → before c c ≡ false
  pub transitive : (c d e : ℕ) → Member c → Member d → Member e → before c d ≡ true → before d e ≡ true → before c e ≡ true
  pub total : (c d : ℕ) → Member c → Member d → c ≢ d → (before c d ≡ true) ⊎ (before d c ≡ true)
