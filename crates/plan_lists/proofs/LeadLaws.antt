-- Who may be ahead of each cart, from the last cart down: each cart takes what is allowed on its lane, and is not allowed from then on.
use Prim.Native.Nat.{ℕ, ◌+◌, ◌^◌, ◌<◌}
use mathlib.Core.Path.{◌≡◌, refl, sym, ap, ◌∙◌}
use mathlib.Core.Bool.{Bool, true, false, not, ◌&&◌, and-true, and-false}
use mathlib.Core.List.{List}
use native.Mathlib.Omega.{arith}
use native.Mathlib.Decide.{ℕ_discrete, dec_lt}
use lib.ListN.{get_or, set, replicate, length-replicate, get_or-replicate}
use lib.Dec.{leb, eqb}
use borrow.Author.Tests.{le-leb, lt-leb, eqb-true, eqb-false, eq-eqb, ne_eqb}
use Rattle.words.specs.Lists.{pick, entries}
use Rattle.words.proofs.Entries.{at_entry, entries_is, same_entries, put_entry}
use Rattle.sets.specs.inner.Member.{has, Without}
use Rattle.sets.specs.Counting.{set_below}
use Rattle.sets.proofs.Counting.{has_set, set_is, set_same}
use Rattle.plan_lists.specs.inner.Sets.{all_but_from, may_lead}

-- all carts
all_carts : set_below 16 (λ _. true) ≡ 65535
unfolding set_below
all_carts = refl

-- one number down, only that number is new
leb_down : (i d : ℕ) → (d ≡ i → ⊥) → leb i d ≡ leb (i + 1) d
leb_down i d n = go (dec_lt i d)
  where
    go : Dec (i < d) → leb i d ≡ leb (i + 1) d
    go (yes l) = rw (le-leb i d (omega arith), le-leb (i + 1) d (omega arith))
    go (no l) = rw (lt-leb i d (omega (arith, l, n)), lt-leb (i + 1) d (omega (arith, l)))

module _ (lane : List ℕ) where
  -- what is allowed on each lane when the carts from i on are passed, and what these carts have
  unfoldable pub allowed_at : ℕ → List ℕ
  allowed_at i = entries 16 0 (all_but_from lane i)

  abbrev lead_rule : ℕ → ℕ → ℕ
  lead_rule i x = pick (leb i x) (all_but_from lane (x + 1) (get_or lane x 0)) 0

  unfoldable pub leads_at : ℕ → List ℕ
  leads_at i = entries 16 0 (lead_rule i)

  pub allowed_none : replicate 16 65535 ≡ allowed_at 16
  unfolding allowed_at
  allowed_none =
      entries_is (replicate 16 65535) 16 (all_but_from lane 16) (length-replicate {A = ℕ} 16 65535) λ l h.
      get_or-replicate 16 l 65535 0 h
      ∙ sym (set_same 16 _ (λ _. true) (λ d k. rw (lt-leb 16 d k)) ∙ all_carts)

  pub leads_none : replicate 16 0 ≡ leads_at 16
  unfolding leads_at
  leads_none =
      entries_is (replicate 16 0) 16 (lead_rule 16) (length-replicate {A = ℕ} 16 0) λ x h.
      get_or-replicate 16 x 0 0 h ∙ rw (lt-leb 16 x h)

  module _ (i k : ℕ) (down : k ≡ i + 1) (allowed : List ℕ) (e : allowed ≡ allowed_at k) where
    abbrev own : ℕ
    own = get_or lane i 0

    allowed_own : own < 16 → get_or allowed own 0 ≡ all_but_from lane (i + 1) own
    unfolding allowed_at
    allowed_own l = ap (λ (x : List ℕ). get_or x own 0) e ∙ at_entry 16 (all_but_from lane k) own l ∙ ap (λ (n : ℕ). all_but_from lane n own) down

    pub allowed_next : (r : ℕ) → own < 16 → r < 2 ^ 16 → Without (get_or allowed own 0) i r → set allowed own r ≡ allowed_at i
    unfolding allowed_at
    allowed_next r l h w =
        ap (λ (x : List ℕ). set x own r) (e ∙ ap (λ (n : ℕ). entries 16 0 (all_but_from lane n)) down)
        ∙ put_entry 16 (all_but_from lane (i + 1)) (all_but_from lane i) own r l
        (sym (set_is 16 r _ h (λ d q. w d ∙ ap (λ (x : ℕ). has x d && not (eqb d i)) (allowed_own l) ∙ ap (λ (b : Bool). b && not (eqb d i))
        (has_set 16 _ d q) ∙ here d)))
        (λ x n. set_same 16 _ _ (λ d _. ap not (there x n d (ℕ_discrete d i))))
      where
        spread : (x y b : Bool) → (b ≡ true → y ≡ false) → (b ≡ false → y ≡ x) → (x && not b) ≡ y
        spread x y true f g = and-false x ∙ sym (f refl)
        spread x y false f g = and-true x ∙ sym (g refl)

        here : (d : ℕ) → (not (leb (i + 1) d && eqb (get_or lane d 0) own) && not (eqb d i)) ≡ not (leb i d && eqb (get_or lane d 0) own)
        here d =
            spread (not (leb (i + 1) d && eqb (get_or lane d 0) own)) (not (leb i d && eqb (get_or lane d 0) own)) (eqb d i)
            (λ t. rw (eqb-true d i t, le-leb i i (omega arith), eq-eqb own own refl))
            (λ f. rw (leb_down i d (eqb-false d i f)))

        there : (x : ℕ) → (x ≡ own → ⊥) → (d : ℕ) → Dec (d ≡ i) → (leb i d && eqb (get_or lane d 0) x) ≡ (leb (i + 1) d && eqb (get_or lane d 0) x)
        there x n d (yes q) = rw (q, ne_eqb own x (λ s. n (sym s))) (and-false (leb i i) ∙ sym (and-false (leb (i + 1) i)))
        there x n d (no q) = rw (leb_down i d q)

    pub leads_next : (lead : List ℕ) → own < 16 → i < 16 → lead ≡ leads_at k → set lead i (get_or allowed own 0) ≡ leads_at i
    unfolding leads_at
    leads_next lead l h q =
        ap (λ (x : List ℕ). set x i (get_or allowed own 0)) (q ∙ ap (λ (n : ℕ). entries 16 0 (lead_rule n)) down)
        ∙ put_entry 16 (lead_rule (i + 1)) (lead_rule i) i (get_or allowed own 0) h
        (rw (le-leb i i (omega arith)) (sym (allowed_own l)))
        (λ x n. ap (λ (b : Bool). pick b (all_but_from lane (x + 1) (get_or lane x 0)) 0) (leb_down i x n))

  pub leads_all : (i : ℕ) → i ≡ 0 → leads_at i ≡ may_lead lane
  unfolding leads_at may_lead
  leads_all i e = rw e (same_entries 16 _ _ λ x _. rw (le-leb 0 x (omega arith)))
