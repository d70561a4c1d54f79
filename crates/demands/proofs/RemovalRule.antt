-- The removal rule's test is of a cycle: the orders present are of visitors only, so that carts that do not come out wait round one.
-- And its levels: each cut halves a group, so that below the fourth level a group has one cart and no pair.
use Prim.Native.Nat.{ℕ, zero, suc, ◌+◌, ◌/◌, ◌≤◌, ◌<◌}
use mathlib.Core.Path.{◌≡◌, sym, ap, ◌∙◌}
use mathlib.Core.Bool.{false, true≢false, not-eq-not}
use mathlib.Core.List.{[]}
use native.Mathlib.Decide.{dec_lt}
use native.Mathlib.Omega.{arith}
use Rattle.moves.proofs.Cycles.{locked_iff_cycle}
use Rattle.routes.specs.Moves.{system}
use Rattle.routes.proofs.Moves.{meetable}
use Rattle.sheet.specs.Valid.{Valid}
use Rattle.sheet.specs.declared.Sheet.{Sheet}
use Rattle.removal.specs.Pairs.{Unplanned, rank}
use Rattle.removal.specs.Present.{present}
use Rattle.removal.specs.Removal.{decisions}
use Rattle.removal.specs.Pairs.{PairIn}
use Rattle.removal.proofs.Ranks.{rank_injective}
use Rattle.removal.proofs.Pairs.{pair_says}
use Rattle.removal.proofs.Present.{present_visitors}
use Rattle.times.proofs.Running.{out_says}
use Rattle.removal.proofs.Levels.{levels_suffice}
use Rattle.planner.specs.Planning.{unplanned}
use Rattle.demands.specs.DemandTwo.{TestsForCycle, Group, whole, lower, upper, FourLevels}

-- "If the moves now have a cycle"
pub tests_for_cycle : (U : Unplanned) → TestsForCycle U
tests_for_cycle U low high decided =
    let X = present U low high decided in
    let locked = locked_iff_cycle (system X) (meetable X (present_visitors U low high decided)) in (
      λ e. locked.0 (λ all. true≢false (sym ((out_says X).1 all) ∙ e)),
      λ cycle. (not-eq-not {b = false}).0 (λ e. locked.1 cycle ((out_says X).0 e)),
    )

-- ---- levels

-- how many ranks a group of a level has at most: 16 at level 1, then half, rounded up
abbrev most : ℕ → ℕ
most zero = 32
most (suc level) = (most level + 1) / 2

group_size : (carts : ℕ) → carts ≤ 16 → {level low high : ℕ} → Group carts level low high → (low ≤ high) × (high ≤ low + most level)
group_size carts few whole = (omega arith, omega arith)
group_size carts few (lower {level} {low} {high} g) = let (up, small) = group_size carts few g in (omega arith, omega arith)
group_size carts few (upper {level} {low} {high} g) = let (up, small) = group_size carts few g in (omega arith, omega arith)

most_one : (level : ℕ) → 4 < level → most level ≤ 1
most_one zero h = absurd (omega arith)
most_one (suc level) h = go (dec_lt 4 level) (most_one level)
  where
    go : Dec (4 < level) → (4 < level → most level ≤ 1) → most (suc level) ≤ 1
    go (yes l) less = omega (arith, less l)
    go (no n) less = let last : level ≡ 4 = omega (arith, n) in rw last (omega arith)

module _ (U : Unplanned) where
  pairs_above : U.carts ≤ 16 → {level low high : ℕ} → Group U.carts level low high
      → (z d c : ℕ) → d < U.carts → c < U.carts → PairIn U low high z d c → level ≤ 4
  pairs_above few {level} {low} {high} group z d c l m pair = go (dec_lt 4 level)
    where
      go : Dec (4 < level) → level ≤ 4
      go (yes deep) =
          let (up, small) = group_size U.carts few group in
          let (_, apart) = (pair_says U z d c).0 pair.pair in
          let one : rank U d ≡ rank U c = omega (arith, most_one level deep, pair.ranks) in
          absurd (apart (ap U.given.lane (rank_injective U d c l m one)))
      go (no n) = omega (arith, n)

-- "at most four levels with pairs"
pub four_levels : (sheet : Sheet) → Valid sheet → FourLevels (unplanned sheet)
unfolding decisions
four_levels sheet v = record {
  with_pairs = pairs_above (unplanned sheet) v.carts_most;
  suffice = levels_suffice (unplanned sheet) 4 (suc sheet.carts) 0 sheet.carts [] (omega (arith, v.carts_most)) (omega arith);
}
