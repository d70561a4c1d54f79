-- The table's entry for the cart in front tells its first entering time as the rule does.
use Prim.Native.Nat.{ℕ, zero, suc, ◌+◌, ◌*◌, ◌-◌}
use mathlib.Core.Path.{◌≡◌, refl, sym}
use mathlib.Core.Bool.{Bool, true, false}
use mathlib.Core.List.{List}
use native.Mathlib.Omega.{arith}
use lib.ListN.{get_or}
use borrow.Author.Tests.{ne_eqb}
use Rattle.words.specs.Lists.{pick}
use Rattle.routes.specs.Crossing.{Crossing}
use Rattle.routes.specs.Lanes.{is_front}
use Rattle.routes.proofs.Lanes.{front_says}
use Rattle.times.specs.Times.{front_enters}
use Rattle.times.proofs.Fronts.{front_is}
use Rattle.sheet_table.specs.inner.Parts as parts
use Rattle.crossing.specs.inner.Tables.{fronts_of, crossing_by, crossing_of}
use Rattle.crossing.proofs.Fronts.{front_lower}
use Rattle.judge_entering.specs.inner.Lanes.{front_time}
use Rattle.judge_entering.specs.Times.{times_of}
use Rattle.sheet_table.specs.declared.Table.{Table}

module _ (sheet : Table) (ahead enter : List ℕ) (c : ℕ) where
  abbrev X : Crossing
  X = crossing_of sheet ahead

  pub front_enters_lem : front_time (get_or (fronts_of sheet) c 0) enter ≡ front_enters X (times_of enter) c
  unfolding crossing_by
  front_enters_lem = go (get_or (fronts_of sheet) c 0) refl
    where
      none : (b : Bool) → is_front X (X.front c - 1) c ≡ b → get_or (fronts_of sheet) c 0 ≡ 0 → 0 ≡ pick b (times_of enter (X.front c - 1) 0) 0
      none false e is = refl
      none true e is = absurd (omega (arith, is, ((front_says X (X.front c - 1) c).0 e).is))

      go : (f : ℕ) → get_or (fronts_of sheet) c 0 ≡ f → front_time f enter ≡ front_enters X (times_of enter) c
      go zero is = none (is_front X (X.front c - 1) c) refl is
      go (suc d) is =
          let place : 8 * (suc d - 1) ≡ 8 * d + 0 = omega arith in
          rw (place, ne_eqb (suc d) 0 (λ e. omega arith))
          (sym (front_is X c (times_of enter) d
          ((front_says X d c).1 (front_lower (parts.steps sheet) (parts.zone sheet) (parts.lane sheet) ahead d c is).1)))
