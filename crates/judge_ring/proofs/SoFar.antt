-- The ring written cart by cart.
use Prim.Native.Nat.{ℕ, zero, suc, ◌+◌, ◌-◌, ◌≤◌, ◌<◌}
use mathlib.Core.Path.{◌≡◌, refl, sym, ap, ◌∙◌}
use mathlib.Core.Logic.{◌≢◌}
use mathlib.Core.List.{List, ◌∷◌, map}
use native.Mathlib.Omega.{arith}
use native.Mathlib.Numerals.{add-one}
use native.Mathlib.Decide.{dec_lt, ℕ_discrete}
use lib.ListN.{length, set, replicate}
use Rattle.words.specs.Lists.{entries, table}
use Rattle.words.proofs.Entries.{length_entries}
use Rattle.words.proofs.Filling.{table_none, table_next}
use Rattle.moves.specs.Rings.{follow, least_from, ring_first, ring_rest}
use Rattle.moves.proofs.Pointing.{Repeats, follow_repeats}
use Rattle.judge_ring.specs.Ring.{ring_from, ring_by, sixteen}
use Rattle.judge_ring.specs.inner.Tables.{ByTable, by_table}
use Rattle.judge_ring.proofs.Sixteen.{map_entries, sixteen_filled}
use Rattle.judge_ring.proofs.Rounds.{between_is, ring_turn}

first_is : (to : List ℕ) (c far first : ℕ) → far ≡ follow (by_table to) 16 c → first ≡ least_from (by_table to) 16 far → first ≡ ring_first (by_table to) 16 c
unfolding ring_first
first_is to c far first e q = q ∙ ap (least_from (by_table to) 16) e

module _ (to wanted : List ℕ) where
  -- n carts of the ring that begins at `first` are written, and d is next; there is room for it, unless it is the first again
  pub record SoFar (c first : ℕ) (cart zone : List ℕ) (n d : ℕ) : Type 0 where
    pub cart_16 : c < 16
    pub begun : first ≡ ring_first (by_table to) 16 c
    pub some : 0 < n
    pub most : n ≤ 16
    pub few : d ≢ first → n < 16
    pub next : d ≡ follow (by_table to) n first
    pub next_cart : d < 16
    pub not_yet : (x : ℕ) → 0 < x → x < n → follow (by_table to) x first ≢ first
    pub carts : cart ≡ table 16 n (λ x. follow (by_table to) x first)
    pub zones : zone ≡ table 16 n (λ x. by_table wanted (follow (by_table to) x first))

  module _ (below : ByTable to) where
    follow_below : (c : ℕ) → c < 16 → (n : ℕ) → follow (by_table to) n c < 16
    follow_below c h zero = h
    follow_below c h (suc n) = below (follow (by_table to) n c)

    repeats : (c : ℕ) → c < 16 → Repeats (by_table to) 16 c
    repeats c h = follow_repeats (by_table to) 16 c (λ i _. follow_below c h i)

    -- the first comes again after at most 16
    few_yet : (c first : ℕ) → c < 16 → first ≡ ring_first (by_table to) 16 c → (n d : ℕ) → d ≡ follow (by_table to) n first
        → ((x : ℕ) → 0 < x → x < n → follow (by_table to) x first ≢ first) → d ≢ first → n < 16
    few_yet c first inside begun n d next not_yet other =
        let (turn, few, again) = ring_turn (by_table to) 16 c (repeats c inside) in
        go turn few (rw (← begun) at again) (dec_lt turn n) (ℕ_discrete (suc turn) n)
      where
        go : (turn : ℕ) → turn < 16 → follow (by_table to) (suc turn) first ≡ first → Dec (turn < n) → Dec (suc turn ≡ n) → n < 16
        go turn few again (no m) e = omega (arith, m)
        go turn few again (yes l) (yes e) = absurd (other (next ∙ ap (λ (x : ℕ). follow (by_table to) x first) (sym e) ∙ again))
        go turn few again (yes l) (no m) = absurd (not_yet (suc turn) (omega arith) (omega (arith, m)) again)

    pub so_far_start : (c far first : ℕ) → c < 16 → far ≡ follow (by_table to) 16 c → first ≡ least_from (by_table to) 16 far
        → SoFar c first (set (replicate 16 0) 0 first) (set (replicate 16 0) 0 (by_table wanted first)) 1 (by_table to first)
    so_far_start c far first inside e q =
        let begun = first_is to c far first e q in
        let none_yet : (x : ℕ) → 0 < x → x < 1 → follow (by_table to) x first ≢ first = λ x a b. absurd (omega arith) in
        record {
          cart_16 = inside;
          begun = begun;
          some = omega arith;
          most = omega arith;
          few = few_yet c first inside begun 1 (by_table to first) refl none_yet;
          next = refl;
          next_cart = below first;
          not_yet = none_yet;
          carts = table_next 16 (λ x. follow (by_table to) x first) 0 _ _ (omega arith) refl (table_none 16 _);
          zones = table_next 16 (λ x. by_table wanted (follow (by_table to) x first)) 0 _ _ (omega arith) refl (table_none 16 _);
        }

    module _ (c first : ℕ) (cart zone : List ℕ) (n d : ℕ) (on : SoFar c first cart zone n d) where
      pub so_far_next : d ≢ first → SoFar c first (set cart n d) (set zone n (by_table wanted d)) (n + 1) (by_table to d)
      so_far_next other =
          let next : by_table to d ≡ follow (by_table to) (n + 1) first = rw (add-one n) (ap (by_table to) on.next) in
          record {
            cart_16 = on.cart_16;
            begun = on.begun;
            some = omega arith;
            most = omega (arith, on.few other);
            few = few_yet c first on.cart_16 on.begun (n + 1) (by_table to d) next (λ x a b. later x a b (ℕ_discrete x n));
            next = next;
            next_cart = below d;
            not_yet = λ x a b. later x a b (ℕ_discrete x n);
            carts = table_next 16 _ n _ _ (on.few other) on.next on.carts;
            zones = table_next 16 _ n _ _ (on.few other) (ap (by_table wanted) on.next) on.zones;
          }
        where
          later : (x : ℕ) → 0 < x → x < n + 1 → Dec (x ≡ n) → follow (by_table to) x first ≢ first
          later x a b (yes e) same = other (on.next ∙ ap (λ (y : ℕ). follow (by_table to) y first) (sym e) ∙ same)
          later x a b (no m) same = on.not_yet x a (omega (arith, m)) same

      whole : d ≡ first → ring_from (by_table to) 16 c ≡ entries n 0 (λ x. follow (by_table to) x first)
      unfolding ring_from ring_rest entries
      whole back =
          let all : n ≡ suc (n - 1) = omega (arith, on.some) in
          let again : follow (by_table to) (suc (0 + (n - 1))) first ≡ first = ap (λ (x : ℕ). follow (by_table to) x first) {x = suc (0 + (n - 1))}
          {y = n} (omega (arith, on.some)) ∙ sym on.next ∙ back in
          let rest = between_is (by_table to) first 16 0 (n - 1) (omega (arith, on.most)) again (λ x a b. on.not_yet x a (omega (arith, on.some))) in
          rw (← on.begun, all) (ap (λ (l : List ℕ). first ∷ l) rest)

      pub so_far_end : d ≡ first → record { length = n; cart = cart; zone = zone } ≡ ring_by (by_table to) (by_table wanted) 16 c
      so_far_end back =
          let f : ℕ → ℕ = λ x. follow (by_table to) x first in
          let long : n ≡ length (ring_from (by_table to) 16 c) = sym (ap length (whole back) ∙ length_entries n 0 f) in
          let carts : cart ≡ sixteen (ring_from (by_table to) 16 c) = on.carts ∙ sym (sixteen_filled f n) ∙ ap sixteen (sym (whole back)) in
          let zones : zone ≡ sixteen (map (by_table wanted) (ring_from (by_table to) 16 c)) =
          on.zones ∙ sym (sixteen_filled (λ x. by_table wanted (f x)) n) ∙ ap sixteen
          (sym (map_entries (by_table wanted) f n 0) ∙ ap (map (by_table wanted)) (sym (whole back))) in
          λ i. record { length = long i; cart = carts i; zone = zones i }
