-- The numbers that pass a test, in rising order, as a list.
use Prim.Native.Nat.{ℕ, zero, suc, ◌+◌, ◌≤◌, ◌<◌}
use mathlib.Core.Path.{◌≡◌, refl, sym, ap, ◌∙◌}
use mathlib.Core.Logic.{◌↔◌}
use mathlib.Core.Bool.{Bool, true, false, true≢false, false≢true}
use mathlib.Core.List.{List, [], ◌∷◌, ◌++◌}
use native.Mathlib.Decide.{ℕ_discrete}
use native.Mathlib.Omega.{arith}
use borrow.Author.Tests.{eq-eqb, ne_eqb}
use Rattle.words.specs.Lists.{pick, each}
use Rattle.routes.specs.inner.Lists.{Named, Distinct}
use Rattle.routes.specs.Lists.{is_ahead}

module _ (test : ℕ → Bool) where
  abbrev from : ℕ → ℕ → List ℕ
  from n i = each n i λ c. pick (test c) (c ∷ []) []

  -- who is named passes, and is in range
  from_named : (n i : ℕ) (c : ℕ) → Named (from n i) c → (i ≤ c) × (c < i + n) × (test c ≡ true)
  unfolding each
  from_named zero i c (e, l, at) = absurd (omega arith)
  from_named (suc n) i c named = go (test i) refl (from_named n (i + 1) c) named
    where
      wider : (i + 1 ≤ c) × (c < i + 1 + n) × (test c ≡ true) → (i ≤ c) × (c < i + suc n) × (test c ≡ true)
      wider (a, b, t) = (omega arith, omega arith, t)

      go : (b : Bool) → test i ≡ b → (Named (from n (i + 1)) c → (i + 1 ≤ c) × (c < i + 1 + n) × (test c ≡ true))
          → Named (pick b (i ∷ []) [] ++ from n (i + 1)) c → (i ≤ c) × (c < i + suc n) × (test c ≡ true)
      go true t rest (zero, l, at) = rw (← at) (omega arith, omega arith, t)
      go true t rest (suc e, l, at) = wider (rest (e, omega arith, at))
      go false t rest named = wider (rest named)

  named_from : (n i : ℕ) (c : ℕ) → i ≤ c → c < i + n → test c ≡ true → Named (from n i) c
  unfolding each
  named_from zero i c a b t = absurd (omega arith)
  named_from (suc n) i c a b t = go (test i) refl (ℕ_discrete c i) (λ m. named_from n (i + 1) c m (omega arith) t)
    where
      go : (b : Bool) → test i ≡ b → Dec (c ≡ i) → (i + 1 ≤ c → Named (from n (i + 1)) c) → Named (pick b (i ∷ []) [] ++ from n (i + 1)) c
      go true e (yes same) rest = (0, omega arith, sym same)
      go true e (no other) rest = let (k, l, at) = rest (omega arith) in (suc k, omega arith, at)
      go false e (yes same) rest = absurd (true≢false (sym t ∙ ap test same ∙ e))
      go false e (no other) rest = rest (omega arith)

  from_once : (n i : ℕ) → Distinct (from n i)
  unfolding each
  from_once zero i = λ e k l below same. absurd (omega arith)
  from_once (suc n) i = go (test i) (from_once n (i + 1)) (from_named n (i + 1))
    where
      go : (b : Bool) → Distinct (from n (i + 1)) → ((c : ℕ) → Named (from n (i + 1)) c → (i + 1 ≤ c) × (c < i + 1 + n) × (test c ≡ true))
          → Distinct (pick b (i ∷ []) [] ++ from n (i + 1))
      go true rest named zero zero l below same = absurd (omega arith)
      go true rest named zero (suc k) l below same =
          let (least, _, _) = named i (k, omega arith, sym same) in omega arith
      go true rest named (suc e) zero l below same = absurd (omega arith)
      go true rest named (suc e) (suc k) l below same = rest e k (omega arith) (omega arith) same
      go false rest named e k l below same = rest e k l below same

  -- lower numbers are ahead
  from_ahead : (n i : ℕ) (c d : ℕ) → i ≤ c → c < i + n → test c ≡ true
      → (is_ahead (from n i) c d ≡ true) ↔ ((i ≤ d) × (d < c) × (test d ≡ true))
  unfolding each is_ahead
  from_ahead zero i c d a b t = absurd (omega arith)
  from_ahead (suc n) i c d a b t = go (test i) refl (ℕ_discrete c i) (λ m. from_ahead n (i + 1) c d m (omega arith) t)
    where
      Says : List ℕ → ℕ → Type 0
      Says list least = (is_ahead list c d ≡ true) ↔ ((least ≤ d) × (d < c) × (test d ≡ true))

      head : Dec (d ≡ i) → ¬ (c ≡ i) → test i ≡ true → Says (from n (i + 1)) (i + 1) → Says (i ∷ from n (i + 1)) i
      head (yes same) other e rest =
          rw (ne_eqb i c (λ q. other (sym q)), eq-eqb i d (sym same)) (λ _. (omega arith, omega arith, ap test same ∙ e), λ _. refl)
      head (no apart) other e rest =
          rw (ne_eqb i c (λ q. other (sym q)), ne_eqb i d (λ q. apart (sym q)))
          (λ h. let (l, m, p) = rest.0 h in (omega arith, m, p), λ (l, m, p). rest.1 (omega arith, m, p))

      go : (b : Bool) → test i ≡ b → Dec (c ≡ i) → (i + 1 ≤ c → Says (from n (i + 1)) (i + 1)) → Says (pick b (i ∷ []) [] ++ from n (i + 1)) i
      go true e (yes same) rest = rw (eq-eqb i c (sym same)) (λ h. absurd (false≢true h), λ (l, m, p). absurd (omega arith))
      go true e (no other) rest = head (ℕ_discrete d i) other e (rest (omega arith))
      go false e (yes same) rest = absurd (true≢false (sym t ∙ ap test same ∙ e))
      go false e (no other) rest =
          let says = rest (omega arith) in (
            λ h. let (l, m, p) = says.0 h in (omega arith, m, p),
            λ (l, m, p).
                let apart : ¬ (d ≡ i) = λ q. true≢false (sym p ∙ ap test q ∙ e) in
                says.1 (omega arith, m, p),
          )

  -- ---- from 0 on

  pub passing_named : (n c : ℕ) → Named (from n 0) c ↔ ((c < n) × (test c ≡ true))
  passing_named n c = (λ named. let (_, l, t) = from_named n 0 c named in (omega arith, t), λ (l, t). named_from n 0 c (omega arith) (omega arith) t)

  pub passing_once : (n : ℕ) → Distinct (from n 0)
  passing_once n = from_once n 0

  pub passing_ahead : (n c d : ℕ) → c < n → test c ≡ true → (is_ahead (from n 0) c d ≡ true) ↔ ((d < c) × (test d ≡ true))
  passing_ahead n c d l t =
      let says = from_ahead n 0 c d (omega arith) (omega arith) t in
      (λ h. let (_, m, p) = says.0 h in (m, p), λ (m, p). says.1 (omega arith, m, p))
