-- The candidates of a group are its undecided pairs in both directions, and nothing else.
use Prim.Native.Nat.{ℕ}
use mathlib.Core.Path.{◌≡◌, refl}
use mathlib.Core.Logic.{◌↔◌}
use mathlib.Core.Bool.{Bool, true, false}
use mathlib.Core.List.Memᴰ
use mathlib.Core.List.{List, [], ◌∷◌}
use native.Mathlib.Omega.{arith}
use Rattle.words.specs.Lists.{each}
use Rattle.words.proofs.Members.{all_among, each_has}
use Rattle.removal.specs.Pairs.{Unplanned, Order}
use Rattle.removal.specs.Present.{is_undecided}
use Rattle.removal.specs.Removal.{candidates}
use Rattle.removal.proofs.Candidates.{IsCandidate, undecided_says, candidates_are}
use Rattle.planner_costs.proofs.Strict.{clash}
use Rattle.planner_costs.proofs.Largest.{Among}

-- an order where the test holds, as a list
abbrev where_true : Bool → Order → List Order
where_true b o = elim b [ true ↦ o ∷ [] | false ↦ [] ]

has_true : (b : Bool) (o : Order) → b ≡ true → Among (where_true b o) o
has_true true o is = Memᴰ.head refl
has_true false o is = clash is refl

module _ (U : Unplanned) (low high : ℕ) (decided : List Order) where
  -- the candidates of a zone and a first cart, and of a zone
  abbrev of_first : ℕ → ℕ → List Order
  of_first z d = each U.carts 0 λ c. where_true (is_undecided U low high decided z d c) (record { zone = z; first = d; second = c })

  abbrev of_zone_lem : ℕ → List Order
  of_zone_lem z = each U.carts 0 λ d. of_first z d

  has_candidate : (o : Order) → IsCandidate U low high decided o → Among (candidates U low high decided) o
  unfolding candidates
  has_candidate o u =
      each_has of_zone_lem o U.zones 0 o.zone (omega arith) (omega (arith, u.zone_below))
      (each_has (of_first o.zone) o U.carts 0 o.first (omega arith) (omega (arith, u.first_below))
      (each_has _ o U.carts 0 o.second (omega arith) (omega (arith, u.second_below))
      (has_true _ o ((undecided_says U low high decided o.zone o.first o.second).1 u.undecided))))

  pub among_candidates : (o : Order) → Among (candidates U low high decided) o ↔ IsCandidate U low high decided o
  among_candidates o = (all_among (IsCandidate U low high decided) (candidates U low high decided) (candidates_are U low high decided) o, has_candidate o)
