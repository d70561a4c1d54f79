-- Who is next in front: has a route, and holds the cart behind; from lanes it is a lower cart of the lane, and every lower one is that or in front of it.
use Prim.Native.Nat.{ℕ, zero, suc, ◌-◌, ◌<◌}
use mathlib.Core.Path.{◌≡◌, refl, sym, ◌∙◌}
use mathlib.Core.Logic.{◌↔◌, ◌⊎◌, inl, inr}
use mathlib.Core.Bool.{Bool, true, false, true≢false}
use mathlib.Core.List.{List, []}
use native.Mathlib.Decide.{dec_lt}
use native.Mathlib.Omega.{arith}
use lib.ListN.{length, get_or}
use Rattle.words.specs.Lists.{pick}
use Rattle.words.proofs.Tests.{ltb_says, eqb_says, and_says}
use Rattle.moves.specs.System.{pos}
use Rattle.routes.specs.Crossing.{Crossing, steps}
use Rattle.routes.specs.Lanes.{highest, is_on_lane, next_in_front, is_front, lane_holds}

-- ---- the cart in front

-- what the test says
pub record Front (X : Crossing) (d c : ℕ) : Type 0 where
  pub is : X.front c ≡ suc d
  pub there : 0 < steps X d
  pub here : 0 < steps X c

module _ (X : Crossing) where
  pub front_says : (d c : ℕ) → (is_front X d c ≡ true) ↔ Front X d c
  front_says d c = (
    λ t. let (is, (there, here)) = says.0 t in record { is = is; there = there; here = here },
    λ f. says.1 (f.is, (f.there, f.here)),
  )
    where
      says : (is_front X d c ≡ true) ↔ ((X.front c ≡ suc d) × ((0 < steps X d) × (0 < steps X c)))
      says = and_says _ _ (eqb_says (X.front c) (suc d)) (and_says _ _ (ltb_says 0 (steps X d)) (ltb_says 0 (steps X c)))

  pub holds_says : (s : List ℕ) (c : ℕ) → (lane_holds X s c ≡ true) ↔ ((pos s c ≡ 0) × ((d : ℕ) × (Front X d c × (pos s d ≡ 0))))
  holds_says s c = (
    λ t. let (first, (f, still)) = says.0 t in (first, (X.front c - 1, (f, still))),
    λ (first, (d, (f, still))).
        let same : X.front c - 1 ≡ d = omega (arith, f.is) in
        says.1 (first, rw same (f, still)),
  )
    where
      says : (lane_holds X s c ≡ true) ↔ ((pos s c ≡ 0) × (Front X (X.front c - 1) c × (pos s (X.front c - 1) ≡ 0)))
      says = and_says _ _ (eqb_says (pos s c) 0) (and_says _ _ (front_says (X.front c - 1) c) (eqb_says (pos s (X.front c - 1)) 0))

-- ---- from lanes

-- what the answer says
abbrev pub IsHighest : (ℕ → Bool) → ℕ → ℕ → Type 0
IsHighest test n zero = (d : ℕ) → d < n → test d ≡ false
IsHighest test n (suc h) = (h < n) × (test h ≡ true) × ((d : ℕ) → h < d → d < n → test d ≡ false)

pub highest_is : (test : ℕ → Bool) (n : ℕ) → IsHighest test n (highest test n)
unfolding highest
highest_is test zero = λ d h. absurd (omega arith)
highest_is test (suc n) = go (test n) refl (highest test n) (highest_is test n)
  where
    go : (b : Bool) → test n ≡ b → (h : ℕ) → IsHighest test n h → IsHighest test (suc n) (pick b (suc n) h)
    go true e h rest = (omega arith, e, λ d above below. absurd (omega arith))
    go false e zero rest = λ d below. elim (dec_lt d n) [ yes l ↦ rest d l | no m ↦ let is : d ≡ n = omega arith in rw is e ]
    go false e (suc h) (l, found, higher) =
        (omega arith, found, λ d above below. elim (dec_lt d n) [ yes l ↦ higher d above l | no m ↦ let is : d ≡ n = omega arith in rw is e ])

module _ (lane : ℕ → ℕ) (routes : List (List ℕ)) where
  -- cart c has a route, from lane l
  abbrev pub OnLane : ℕ → ℕ → Type 0
  OnLane l c = (0 < length (get_or routes c [])) × (lane c ≡ l)

  pub on_lane_says : (l c : ℕ) → (is_on_lane lane routes l c ≡ true) ↔ OnLane l c
  on_lane_says l c = and_says _ _ (ltb_says 0 (length (get_or routes c []))) (eqb_says (lane c) l)

  pub next_is : (d c : ℕ) → next_in_front lane routes c ≡ suc d → (d < c) × OnLane (lane c) d
  unfolding next_in_front
  next_is d c = go (highest (is_on_lane lane routes (lane c)) c) (highest_is (is_on_lane lane routes (lane c)) c)
    where
      go : (k : ℕ) → IsHighest (is_on_lane lane routes (lane c)) c k → k ≡ suc d → (d < c) × OnLane (lane c) d
      go zero none e = absurd (omega arith)
      go (suc k) (below, found, higher) e = let is : k ≡ d = omega arith in rw (← is) (below, (on_lane_says (lane c) k).0 found)

  -- a lower cart of the lane is the cart in front, or lower than that
  next_some : (d c : ℕ) → d < c → OnLane (lane c) d → (e : ℕ) × (next_in_front lane routes c ≡ suc e) × ((d ≡ e) ⊎ (d < e))
  unfolding next_in_front
  next_some d c below on = go (highest (is_on_lane lane routes (lane c)) c) (highest_is (is_on_lane lane routes (lane c)) c)
    where
      go : (k : ℕ) → IsHighest (is_on_lane lane routes (lane c)) c k → (e : ℕ) × (k ≡ suc e) × ((d ≡ e) ⊎ (d < e))
      go zero none = absurd (true≢false (sym ((on_lane_says (lane c) d).1 on) ∙ none d below))
      go (suc e) (l, found, higher) =
          elim (dec_lt e d) [
            | yes above ↦ absurd (true≢false (sym ((on_lane_says (lane c) d).1 on) ∙ higher d above below))
            | no n ↦ (e, refl, elim (dec_lt d e) [ yes m ↦ inr m | no m ↦ inl (omega arith) ])
          ]

  -- two carts with the same cart in front are one
  pub next_once : (c d e : ℕ) → 0 < length (get_or routes d []) → 0 < length (get_or routes e []) → next_in_front lane routes d ≡ suc c
      → next_in_front lane routes e ≡ suc c → d ≡ e
  next_once c d e there here f g =
      elim (dec_lt d e) [
        | yes below ↦ absurd (apart d e there f g below)
        | no n ↦ elim (dec_lt e d) [ yes below ↦ absurd (apart e d here g f below) | no m ↦ omega arith ]
      ]
    where
      -- the higher of the two would have the lower in front
      apart : (a b : ℕ) → 0 < length (get_or routes a []) → next_in_front lane routes a ≡ suc c → next_in_front lane routes b ≡ suc c → a < b → ⊥
      apart a b some f g below =
          let (past, (_, same)) = next_is c a f in
          let (_, (_, other)) = next_is c b g in
          let (k, is, last) = next_some a b below (some, sym same ∙ other) in
          elim last [ inl q ↦ omega arith | inr q ↦ omega arith ]

  -- what holds from each cart to the one in front, and of two such in a row, holds to every lower cart of the lane
  pub lane_closed : (R : ℕ → ℕ → Type 0) →
      ((d c : ℕ) → next_in_front lane routes c ≡ suc d → 0 < length (get_or routes d []) → 0 < length (get_or routes c []) → R d c)
      → ((e d c : ℕ) → R e d → R d c → R e c) → (n d c : ℕ) → c < n → d < c → 0 < length (get_or routes c []) → OnLane (lane c) d → R d c
  lane_closed R one two zero d c few below some on = absurd (omega arith)
  lane_closed R one two (suc n) d c few below some on = go (λ e. lane_closed R one two n d e) (next_some d c below on)
    where
      go : ((e : ℕ) → e < n → d < e → 0 < length (get_or routes e []) → OnLane (lane e) d → R d e)
          → (e : ℕ) × (next_in_front lane routes c ≡ suc e) × ((d ≡ e) ⊎ (d < e)) → R d c
      go rest (e, f, inl same) = let (_, (there, _)) = next_is e c f in rw same (one e c f there some)
      go rest (e, f, inr lower) =
          let (under, (there, same)) = next_is e c f in
          two d e c (rest e (omega arith) lower there (on.0, on.1 ∙ sym same)) (one e c f there some)
