-- First come, first through is passable: ranks rise along its orders, so all come out; it is strict, and on a lane goes by number.
use Prim.Native.Nat.{ℕ, ◌<◌}
use mathlib.Core.Path.{◌≡◌, refl}
use mathlib.Core.Logic.{◌↔◌, ◌≢◌, ◌⊎◌, inl, inr}
use mathlib.Core.Bool.{true, false, not-eq-not}
use Rattle.words.proofs.Tests.{and_says}
use Rattle.routes.specs.inner.Orders.{OnlyVisitors, StrictOrder}
use Rattle.routes.proofs.Ranks.{rank_out}
use Rattle.times.specs.Running.{is_out}
use Rattle.times.proofs.Running.{out_says}
use Rattle.removal.specs.Pairs.{Unplanned, rank}
use Rattle.removal.specs.inner.Plannable.{Plannable}
use Rattle.removal.specs.inner.Passable.{Passable}
use Rattle.removal.specs.FirstCome.{first_come}
use Rattle.removal.proofs.Ranks.{Comes, comes_says, comes_trans, comes_never, comes_one, rank_rises, lane_comes}
use Rattle.removal.proofs.Lanes.{lanes_up}
use Rattle.removal.proofs.Pairs.{Visiting, visits_says}

module _ (U : Unplanned) (able : Plannable U) where
  first_says : (z d c : ℕ) → ((first_come U).before z d c ≡ true) ↔ ((Visiting U d z × Visiting U c z) × Comes U d c)
  unfolding first_come
  first_says z d c = and_says _ _ (and_says _ _ (visits_says U d z) (visits_says U c z)) (comes_says U d c)

  pub first_both : (z d c : ℕ) → (first_come U).before z d c ≡ true → Visiting U d z × Visiting U c z
  first_both z d c b = ((first_says z d c).0 b).0

  first_only : OnlyVisitors (first_come U)
  unfolding first_come
  first_only z d c b = (first_both z d c b).0

  -- "the plain rule is accepted for every valid sheet"
  pub first_out : is_out (first_come U) ≡ true
  unfolding first_come
  first_out = (out_says (first_come U)).1 (rank_out (first_come U) first_only (rank U) rises (lanes_up U able (first_come U).before))
    where
      rises : (z d c : ℕ) → (first_come U).before z d c ≡ true → rank U d < rank U c
      rises z d c b = let ((v, _), comes) = (first_says z d c).0 b in rank_rises U d c (able.cart_below d z v) comes

  pub first_strict : (z : ℕ) → StrictOrder (λ c. Visiting U c z) ((first_come U).before z)
  first_strict z = record {
    irreflexive = λ c v. (not-eq-not {b = false}).0 (λ b. comes_never U c ((first_says z c c).0 b).1);
    transitive = λ c d e v w x cd de.
        (first_says z c e).1 ((v, x), comes_trans U c d e ((first_says z c d).0 cd).1 ((first_says z d e).0 de).1);
    total = λ c d v w n. go c d v w n (comes_one U c d);
  }
    where
      go : (c d : ℕ) → Visiting U c z → Visiting U d z → c ≢ d → Comes U c d ⊎ (Comes U d c ⊎ (c ≡ d))
          → ((first_come U).before z c d ≡ true) ⊎ ((first_come U).before z d c ≡ true)
      go c d v w n (inl h) = inl ((first_says z c d).1 ((v, w), h))
      go c d v w n (inr (inl h)) = inr ((first_says z d c).1 ((w, v), h))
      go c d v w n (inr (inr same)) = absurd (n same)

  -- no cart has a "higher-numbered one of its lane ahead"
  pub first_lane : (z d c : ℕ) → (first_come U).before z d c ≡ true → U.given.lane d ≡ U.given.lane c → d < c
  first_lane z d c b same = let ((v, _), comes) = (first_says z d c).0 b in lane_comes U able d c (able.cart_below d z v) same comes

  pub first_passable : Passable U (first_come U)
  unfolding first_come
  first_passable = record { routed = refl; fronted = refl; both = first_both; strict = first_strict; in_lane = first_lane; comes_out = first_out }
