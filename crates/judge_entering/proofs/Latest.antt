-- The latest over a set: the lowest member taken first, and then the rest; or the carts of the same lane first, and then the others.
use Prim.Native.Nat.{ℕ, zero, suc, ◌+◌, ◌≤◌, ◌<◌, max}
use mathlib.Core.Path.{◌≡◌, refl, sym, ap, ◌∙◌}
use mathlib.Core.Bool.{Bool, true, false, not, ◌&&◌}
use mathlib.Core.List.{List}
use native.Mathlib.Decide.{ℕ_discrete}
use native.Mathlib.Nat.{le_refl}
use native.Mathlib.Omega.{arith}
use lib.ListN.{get_or}
use Rattle.words.specs.Lists.{pick}
use Rattle.sets.specs.inner.Member.{has, Less, Lowest, Rest}
use Rattle.sets.proofs.Laws.{has_none, without_gone, without_other}
use Rattle.times.specs.Times.{largest}
use Rattle.times.proofs.Largest.{largest_most, largest_least, largest_same}
use Rattle.sheet_table.specs.inner.Parts.{follow, cross, zone}
use Rattle.crossing.specs.Plans.{given_by}
use Rattle.judge_entering.specs.inner.Times.{clear_by, clear_of, latest, Enterable}
use Rattle.sheet_table.specs.declared.Table.{Table}

module _ (rule : ℕ → ℕ) where
  -- the members' times
  abbrev of : ℕ → ℕ → ℕ
  of members d = pick (has members d) (rule d) 0

  -- no part of the time that is begun with is past the latest
  pub latest_past : (members time more result : ℕ) → result ≡ latest rule members (time + more) → more ≤ result
  unfolding latest
  latest_past members time more result is = omega arith

  pub latest_none : (members time : ℕ) → members ≤ 0 → latest rule members time ≡ time
  unfolding latest
  latest_none members time none =
      let empty : largest (of members) 16 ≤ 0 = largest_most (of members) 16 0 (λ d _. rw (empty_is, has_none d) (le_refl 0)) in
      omega arith
    where
      empty_is : members ≡ 0
      empty_is = omega arith

  -- what is left has the same times, but for the lowest member's
  rest_other : (members rest d e : ℕ) → Lowest members d → Rest members rest → ¬ (e ≡ d) → of rest e ≡ of members e
  rest_other members rest d e low others n = ap (λ (b : Bool). pick b (rule e) 0) (without_other members d rest (others.others d low) e n)

  rest_lowest : (members rest d : ℕ) → Lowest members d → Rest members rest → of rest d ≡ 0
  rest_lowest members rest d low others = ap (λ (b : Bool). pick b (rule d) 0) (without_gone members d rest (others.others d low))

  pub latest_turn : (members rest d time : ℕ) → d < 16 → Lowest members d → Rest members rest
      → latest rule members time ≡ latest rule rest (max time (rule d))
  unfolding latest
  latest_turn members rest d time l low others =
      let first : rule d ≤ largest (of members) 16 = rw low.member at (largest_least (of members) 16 d l) in
      let more : largest (of rest) 16 ≤ largest (of members) 16 = largest_most (of rest) 16 (largest (of members) 16)
      (λ e below. up e below (ℕ_discrete e d)) in
      let all : largest (of members) 16 ≤ max (rule d) (largest (of rest) 16) = largest_most (of members) 16 (max (rule d) (largest (of rest) 16))
      (λ e below. down e below (ℕ_discrete e d)) in
      omega arith
    where
      up : (e : ℕ) → e < 16 → Dec (e ≡ d) → of rest e ≤ largest (of members) 16
      up e below (yes q) = rw (q, rest_lowest members rest d low others) (omega arith)
      up e below (no n) = rw (rest_other members rest d e low others n) (largest_least (of members) 16 e below)

      down : (e : ℕ) → e < 16 → Dec (e ≡ d) → of members e ≤ max (rule d) (largest (of rest) 16)
      down e below (yes q) = rw (q, low.member) (omega arith)
      down e below (no n) = omega (arith, rest_other members rest d e low others n, largest_least (of rest) 16 e below)

-- ---- in two parts

largest_both : (rule other : ℕ → ℕ) (n : ℕ) → largest (λ d. max (rule d) (other d)) n ≡ max (largest rule n) (largest other n)
unfolding largest
largest_both rule other zero = refl
largest_both rule other (suc n) = omega (arith, largest_both rule other n)

-- a member is in one part or in the other
part_of : (member mine : Bool) (time near far : ℕ) → (member ≡ true → mine ≡ true → time ≡ near) → (member ≡ true → mine ≡ false → time ≡ far)
    → pick member time 0 ≡ max (pick (member && not (member && not mine)) near 0) (pick (member && not mine) far 0)
part_of true true time near far is-near is-far = omega (arith, is-near refl refl)
part_of true false time near far is-near is-far = omega (arith, is-far refl refl)
part_of false mine time near far is-near is-far = refl

-- the latest over the carts of the same lane, by the follow gap, and then over the others, by the cross gap
module _ (sheet : Table) (ahead : List ℕ) (mates : ℕ) (leave : List ℕ) (x c : ℕ) (enterable : Enterable sheet ahead mates leave x c) where
  abbrev z : ℕ
  z = get_or (zone sheet) x 0

  abbrev near : ℕ → ℕ
  near = clear_by leave z (get_or (follow sheet) z 0)

  abbrev far : ℕ → ℕ
  far = clear_by leave z (get_or (cross sheet) z 0)

  abbrev members : ℕ
  members = get_or ahead x 0

  gap_is : (d : ℕ) (b : Bool) → has members d ≡ true → has mates d ≡ b
      → clear_of sheet leave z c d ≡ clear_by leave z (pick b (get_or (follow sheet) z 0) (get_or (cross sheet) z 0)) d
  unfolding given_by
  gap_is d b member e =
      ap (λ (t : Bool). clear_by leave z (pick t (get_or (follow sheet) z 0) (get_or (cross sheet) z 0)) d)
      (sym (enterable.mates_are d member) ∙ e)

  parts_latest : (others mine ready clear time : ℕ) → Less members mates others → Less members others mine
      → clear ≡ latest near mine ready → time ≡ latest far others clear → time ≡ latest (clear_of sheet leave z c) members ready
  unfolding latest
  parts_latest others mine ready clear time are-others are-mine clear-is time_is =
      omega (
        arith,
        largest_same (of (clear_of sheet leave z c) members) (λ d. max (of near mine d) (of far others d)) 16 parted,
        largest_both (of near mine) (of far others) 16,
      )
    where
      parted : (d : ℕ) → d < 16 → of (clear_of sheet leave z c) members d ≡ max (of near mine d) (of far others d)
      parted d l =
          rw (are-mine d, are-others d)
          (part_of (has members d) (has mates d) (clear_of sheet leave z c d) (near d) (far d) (gap_is d true) (gap_is d false))

  -- with the zone and the gaps as they are read
  pub latest_parts : (y f k others mine ready clear time : ℕ) → y ≡ z → f ≡ get_or (follow sheet) y 0 → k ≡ get_or (cross sheet) y 0
      → Less members mates others → Less members others mine → clear ≡ latest (clear_by leave y f) mine ready
      → time ≡ latest (clear_by leave y k) others clear → time ≡ latest (clear_of sheet leave z c) members ready
  latest_parts y f k others mine ready clear time y-is f-is k-is are-others are-mine clear-is time_is =
      parts_latest others mine ready clear time are-others are-mine (rw (f-is, y-is) at clear-is) (rw (k-is, y-is) at time_is)
