-- Two rules that point alike among n carts have the same ring.
use Prim.Native.Nat.{ℕ, zero, suc, ◌<◌, min}
use mathlib.Core.Path.{◌≡◌, refl, ap, ◌∙◌}
use mathlib.Core.Bool.{Bool, true, false}
use mathlib.Core.List.{List, [], ◌∷◌, map}
use native.Mathlib.Omega.{arith}
use lib.ListN.{length, get_or}
use lib.Dec.{eqb}
use Rattle.words.specs.Lists.{entries}
use Rattle.words.proofs.Entries.{at_entry}
use Rattle.moves.specs.Rings.{follow, least_from, between, ring_first, ring_rest}
use Rattle.judge_ring.specs.Ring.{ring_from, ring_by, sixteen}
use Rattle.judge_ring.specs.inner.Tables.{ByTable, by_table}

abbrev unless : Bool → ℕ → List ℕ → List ℕ
unless b d list = elim b [ true ↦ [] | false ↦ d ∷ list ]

module _ (to other : ℕ → ℕ) (n : ℕ) (same : (c : ℕ) → c < n → to c ≡ other c) (below : (c : ℕ) → c < n → to c < n) where
  pub follow_same : (k c : ℕ) → c < n → (follow to k c ≡ follow other k c) × (follow to k c < n)
  follow_same zero c h = (refl, h)
  follow_same (suc k) c h = let (e, l) = follow_same k c h in (same _ l ∙ ap other e, below _ l)

  least_same : (k c : ℕ) → c < n → (least_from to k c ≡ least_from other k c) × (least_from to k c < n)
  unfolding least_from
  least_same zero c h = (refl, h)
  least_same (suc k) c h =
      let (e, l) = least_same k (to c) (below c h) in
      (ap (min c) (e ∙ ap (least_from other k) (same c h)), omega (arith, h))

  first_same : (c : ℕ) → c < n → (ring_first to n c ≡ ring_first other n c) × (ring_first to n c < n)
  unfolding ring_first
  first_same c h =
      let (e, l) = follow_same n c h in
      let (f, m) = least_same n (follow to n c) l in
      (f ∙ ap (least_from other n) e, m)

  -- and so with the zones that the carts want
  module _ (wanted wants : ℕ → ℕ) (alike : (c : ℕ) → c < n → wanted c ≡ wants c) where
    unless_same : (b : Bool) (d : ℕ) (x y : List ℕ) → wanted d ≡ wants d → x ≡ y → map wanted x ≡ map wants y
        → (unless b d x ≡ unless b d y) × (map wanted (unless b d x) ≡ map wants (unless b d y))
    unless_same true d x y w e f = (refl, refl)
    unless_same false d x y w e f = (ap (λ (l : List ℕ). d ∷ l) e, λ i. w i ∷ f i)

    between_same : (first k c : ℕ) → c < n → (between to first k c ≡ between other first k c) ×
        (map wanted (between to first k c) ≡ map wants (between other first k c))
    unfolding between
    between_same first zero c h = (refl, refl)
    between_same first (suc k) c h =
        let (e, f) = between_same first k (to c) (below c h) in
        let (a, b) = unless_same (eqb (to c) first) (to c) _ _ (alike (to c) (below c h)) e f in (
          a ∙ ap (λ (d : ℕ). unless (eqb d first) d (between other first k d)) (same c h),
          b ∙ ap (λ (d : ℕ). map wants (unless (eqb d first) d (between other first k d))) (same c h),
        )

    from_same : (c : ℕ) → c < n → (ring_from to n c ≡ ring_from other n c) × (map wanted (ring_from to n c) ≡ map wants (ring_from other n c))
    unfolding ring_from ring_rest
    from_same c h =
        let (e, l) = first_same c h in
        let (f, g) = between_same (ring_first to n c) n (ring_first to n c) l in (
          ap (λ (list : List ℕ). ring_first to n c ∷ list) f ∙ ap (λ (d : ℕ). d ∷ between other d n d) e,
          (λ i. alike (ring_first to n c) l i ∷ g i) ∙ ap (λ (d : ℕ). map wants (d ∷ between other d n d)) e,
        )

    pub ring_same : (c : ℕ) → c < n → ring_by to wanted n c ≡ ring_by other wants n c
    ring_same c h =
        let (e, f) = from_same c h in
        λ i. record { length = length (e i); cart = sixteen (e i); zone = sixteen (f i) }

-- the ring by the tables that the routine fills
pub ring_tables : (point want : ℕ → ℕ) (to wanted : List ℕ) (c : ℕ) → to ≡ entries 16 0 point → wanted ≡ entries 16 0 want → ByTable to → c < 16
    → ring_by (by_table to) (by_table wanted) 16 c ≡ ring_by point want 16 c
ring_tables point want to wanted c t w below h =
    ring_same (by_table to) point 16 (filled point to t) (λ d _. below d) (by_table wanted) want (filled want wanted w) c h
  where
    filled : (rule : ℕ → ℕ) (table : List ℕ) → table ≡ entries 16 0 rule → (d : ℕ) → d < 16 → by_table table d ≡ rule d
    filled rule table e d l = ap (λ (list : List ℕ). get_or list d 0) e ∙ at_entry 16 rule d l
