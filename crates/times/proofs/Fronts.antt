-- The first entering time of the cart in front, if there is one: a cart's own is no earlier.
use Prim.Native.Nat.{ℕ, ◌-◌, ◌≤◌}
use mathlib.Core.Path.{◌≡◌, refl}
use mathlib.Core.Bool.{Bool, true, false}
use native.Mathlib.Omega.{arith}
use Rattle.words.specs.Lists.{pick}
use Rattle.routes.specs.Crossing.{Crossing}
use Rattle.routes.specs.Lanes.{is_front}
use Rattle.routes.proofs.Lanes.{front_says}
use Rattle.times.specs.Times.{Given, front_enters}
use Rattle.times.specs.inner.Times.{EnteringTimes}
use Rattle.times.proofs.Rules.{entering_ready}

module _ (X : Crossing) (c : ℕ) (t : ℕ → ℕ → ℕ) where
  pub front_most : (k : ℕ) → ((d : ℕ) → is_front X d c ≡ true → t d 0 ≤ k) → front_enters X t c ≤ k
  front_most k h = go (is_front X (X.front c - 1) c) refl
    where
      go : (b : Bool) → is_front X (X.front c - 1) c ≡ b → pick b (t (X.front c - 1) 0) 0 ≤ k
      go true e = h (X.front c - 1) e
      go false e = omega arith

  pub front_is : (d : ℕ) → is_front X d c ≡ true → front_enters X t c ≡ t d 0
  front_is d f = let same : X.front c - 1 ≡ d = omega (arith, ((front_says X d c).0 f).is) in rw (same, f)

  -- "its first entering time is no earlier than that cart's"
  pub front_first : (G : Given) → EnteringTimes X G t → (d : ℕ) → is_front X d c ≡ true → t d 0 ≤ t c 0
  front_first G is d f = omega (arith, is c 0 ((front_says X d c).0 f).here, entering_ready X G t c 0, front_is d f)
