-- The least over a test: its bounds, where none or one passes, and over a set the lowest member taken first, and then the rest.
use Prim.Native.Nat.{ℕ, zero, suc, ◌≤◌, ◌<◌, min}
use mathlib.Core.Path.{◌≡◌, refl, sym, ap, ◌∙◌}
use mathlib.Core.Bool.{Bool, true, false, not, ◌&&◌, and-true, and-false, false≢true}
use native.Mathlib.Decide.{ℕ_discrete}
use native.Mathlib.Nat.{le_refl}
use native.Mathlib.Omega.{arith}
use borrow.Author.Tests.{eq-eqb, ne_eqb}
use Rattle.sets.specs.inner.Member.{has, Lowest, Rest}
use Rattle.sets.proofs.Laws.{has_none}
use Rattle.removal.specs.Spare.{least_of}

-- a least that takes in a number where its test holds
abbrev taking : Bool → ℕ → ℕ → ℕ
taking b more least = elim b [ true ↦ min more least | false ↦ least ]

module _ (test : ℕ → Bool) (rule : ℕ → ℕ) (least : ℕ) where
  -- no number of them is below the least
  pub least_base : (n : ℕ) → least_of test rule least n ≤ least
  unfolding least_of
  least_base zero = le_refl least
  least_base (suc n) = go (test n) (least_base n)
    where
      go : (b : Bool) → least_of test rule least n ≤ least → taking b (rule n) (least_of test rule least n) ≤ least
      go true h = omega arith
      go false h = h

  least_member : (n d : ℕ) → d < n → test d ≡ true → least_of test rule least n ≤ rule d
  unfolding least_of
  least_member zero d l t = absurd (omega arith)
  least_member (suc n) d l t = go (test n) refl (ℕ_discrete d n) (least_member n d)
    where
      go : (b : Bool) → test n ≡ b → Dec (d ≡ n) → (d < n → test d ≡ true → least_of test rule least n ≤ rule d)
          → taking b (rule n) (least_of test rule least n) ≤ rule d
      go true e (yes q) below = rw q (omega arith)
      go false e (yes q) below = absurd (false≢true (sym e ∙ rw q at t))
      go true e (no q) below = omega (arith, below (omega (arith, q)) t)
      go false e (no q) below = below (omega (arith, q)) t

  -- and it is the largest that is so
  least_bound : (n k : ℕ) → k ≤ least → ((d : ℕ) → d < n → test d ≡ true → k ≤ rule d) → k ≤ least_of test rule least n
  unfolding least_of
  least_bound zero k h all = h
  least_bound (suc n) k h all = go (test n) refl (least_bound n k h (λ d l. all d (omega arith)))
    where
      go : (b : Bool) → test n ≡ b → k ≤ least_of test rule least n → k ≤ taking b (rule n) (least_of test rule least n)
      go true e below = omega (arith, all n (omega arith) e)
      go false e below = below

  pub least_empty : (n : ℕ) → ((d : ℕ) → d < n → test d ≡ true → ⊥) → least_of test rule least n ≡ least
  least_empty n none = omega (arith, least_base n, least_bound n least (le_refl least) (λ d l t. absurd (none d l t)))

  pub least_one : (n d : ℕ) → d < n → test d ≡ true → ((e : ℕ) → e < n → test e ≡ true → e ≡ d) → least_of test rule least n ≡ min least (rule d)
  least_one n d l t only =
      omega (
        arith,
        least_base n,
        least_member n d l t,
        least_bound n (min least (rule d)) (omega arith) (λ e m s. rw (only e m s) (omega arith)),
      )

-- only the numbers that pass count
pub least_same : (test other : ℕ → Bool) (rule more : ℕ → ℕ) (least : ℕ) (n : ℕ) → ((d : ℕ) → d < n → test d ≡ other d)
    → ((d : ℕ) → d < n → other d ≡ true → rule d ≡ more d) → least_of test rule least n ≡ least_of other more least n
unfolding least_of
least_same test other rule more least zero tests rules = refl
least_same test other rule more least (suc n) tests rules =
    go (test n) (other n) (tests n (omega arith)) refl (least_same test other rule more least n (λ d l. tests d (omega arith)) (λ d l. rules d (omega arith)))
  where
    go : (b o : Bool) → b ≡ o → other n ≡ o → least_of test rule least n ≡ least_of other more least n
        → taking b (rule n) (least_of test rule least n) ≡ taking o (more n) (least_of other more least n)
    go true true e t below = rw (rules n (omega arith) t, below)
    go false false e t below = below
    go true false e t below = absurd (false≢true (sym e))
    go false true e t below = absurd (false≢true e)

-- ---- over a set

module _ (rule : ℕ → ℕ) where
  pub least_none : (members least : ℕ) → members ≤ 0 → least_of (has members) rule least 16 ≡ least
  least_none members least none =
      let empty : members ≡ 0 = omega arith in
      least_empty (has members) rule least 16 (λ d _ t. false≢true (sym (has_none d) ∙ rw empty at t))

  pub least_turn : (members rest d least : ℕ) → d < 16 → Lowest members d → Rest members rest
      → least_of (has members) rule least 16 ≡ least_of (has rest) rule (min least (rule d)) 16
  least_turn members rest d least l low others = omega (arith, down, up)
    where
      kept : (e : ℕ) → ¬ (e ≡ d) → has rest e ≡ has members e
      kept e n = others.others d low e ∙ ap (λ (b : Bool). has members e && not b) (ne_eqb e d n) ∙ and-true (has members e)

      gone : has rest d ≡ false
      gone = others.others d low d ∙ ap (λ (b : Bool). has members d && not b) (eq-eqb d d refl) ∙ and-false (has members d)

      first : least_of (has members) rule least 16 ≤ rule d
      first = least_member (has members) rule least 16 d l low.member

      base : least_of (has rest) rule (min least (rule d)) 16 ≤ min least (rule d)
      base = least_base (has rest) rule (min least (rule d)) 16

      down : least_of (has members) rule least 16 ≤ least_of (has rest) rule (min least (rule d)) 16
      down = least_bound (has rest) rule (min least (rule d)) 16 _ (omega (arith, first, least_base (has members) rule least 16))
          (λ e below t. member e below t (ℕ_discrete e d))
        where
          member : (e : ℕ) → e < 16 → has rest e ≡ true → Dec (e ≡ d) → least_of (has members) rule least 16 ≤ rule e
          member e below t (yes q) = absurd (false≢true (sym gone ∙ rw q at t))
          member e below t (no n) = least_member (has members) rule least 16 e below (sym (kept e n) ∙ t)

      up : least_of (has rest) rule (min least (rule d)) 16 ≤ least_of (has members) rule least 16
      up = least_bound (has members) rule least 16 _ (omega (arith, base)) (λ e below t. member e below t (ℕ_discrete e d))
        where
          member : (e : ℕ) → e < 16 → has members e ≡ true → Dec (e ≡ d) → least_of (has rest) rule (min least (rule d)) 16 ≤ rule e
          member e below t (yes q) = rw q (omega (arith, base))
          member e below t (no n) = least_member (has rest) rule (min least (rule d)) 16 e below (kept e n ∙ t)
