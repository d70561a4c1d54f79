-- Two rules that point alike among n carts have the same chain.
use Prim.Native.Nat.{ℕ, suc, ◌<◌}
use mathlib.Core.Path.{◌≡◌, sym, ap, ◌∙◌}
use mathlib.Core.Bool.{Bool}
use mathlib.Core.Option.{get_or}
use mathlib.Core.List.{List, map}
use lib.ListN.{length}
use Rattle.words.specs.Checks.{done}
use Rattle.words.specs.Lists.{entries}
use Rattle.sets.specs.Counting.{bit}
use Rattle.moves.specs.System.{System, carts}
use Rattle.moves.specs.Search.{lowest}
use Rattle.moves.specs.Moves.{is_permitted}
use Rattle.moves.specs.Rings.{follow}
use Rattle.moves.specs.Chains.{held_for, chain_of}
use Rattle.judge_ring.specs.Ring.{sixteen}
use Rattle.judge_ring.proofs.Same.{follow_same}
use Rattle.judge_ring.proofs.Sixteen.{map_entries}
use Rattle.moving_why.specs.Why.{chain_by}

module _ (S : System) (at : List ℕ) (to other : ℕ → ℕ) (n : ℕ) (same : (c : ℕ) → c < n → to c ≡ other c) (below : (c : ℕ) → c < n → to c < n)
    (c : ℕ) (inside : c < n) where
  follows : (k : ℕ) → (follow to k c ≡ follow other k c) × (follow to k c < n)
  follows k = follow_same to other n same below k c inside

  held_same : held_for S at to c ≡ held_for S at other c
  unfolding held_for
  held_same = λ i. get_or (lowest (λ k. is_permitted S at ((follows k).0 i)) (carts S)) (carts S)

  carts_same : chain_of S at to c ≡ chain_of S at other c
  carts_same = λ i. entries (suc (held_same i)) 0 (λ k. (follows k).0 i)

  -- and so with the zones that the carts want, and what they want last
  module _ (wanted wants : ℕ → ℕ) (alike : (c : ℕ) → c < n → wanted c ≡ wants c) (out goes : ℕ → Bool) (agree : (c : ℕ) → c < n → out c ≡ goes c) where
    zones_same : map wanted (chain_of S at to c) ≡ map wants (chain_of S at other c)
    zones_same =
        map_entries wanted (λ k. follow to k c) (suc (held_for S at to c)) 0
        ∙ (λ i. entries (suc (held_same i)) 0 (λ k. (alike (follow to k c) (follows k).1 ∙ ap wants (follows k).0) i))
        ∙ sym (map_entries wants (λ k. follow other k c) (suc (held_for S at other c)) 0)

    out_same : out (follow to (held_for S at to c) c) ≡ goes (follow other (held_for S at other c) c)
    out_same =
        agree (follow to (held_for S at to c) c) (follows (held_for S at to c)).1
        ∙ ap goes ((follows (held_for S at to c)).0 ∙ ap (λ (k : ℕ). follow other k c) held_same)

    pub chain_same : chain_by S at to wanted out c ≡ chain_by S at other wants goes c
    chain_same =
        λ i. record { outcome = done; length = length (carts_same i); cart = sixteen (carts_same i); zone = sixteen (zones_same i); out = bit (out_same i) }
