-- A group solved: its trial gives its orders, or it fails, has two ranks at least, and the halves give them.
use Prim.Native.Nat.{ℕ, suc, ◌<◌}
use mathlib.Core.Path.{◌≡◌, subst}
use mathlib.Core.Bool.{Bool, true, false}
use mathlib.Core.List.{List}
use native.Mathlib.Omega.{arith}
use Rattle.removal.specs.Pairs.{Unplanned, Order}
use Rattle.removal.specs.Removal.{middle, solved}
use Rattle.removal.proofs.Solved.{failed_many, solved_some, solved_halves, solved_depth}
use Rattle.planner_trials.specs.inner.Trying.{Solved, Triable, Tries}
use Rattle.planner_solving.specs.inner.Solving.{Solves}
use Rattle.sheet_table.specs.declared.Table.{Table}

module _ {sheet : Table} {ranks pairs visit : List ℕ} {low high : ℕ} {ahead behind undecided ahead' behind' undecided' : List ℕ} {found : Bool}
    (tries : Tries sheet ranks pairs visit low high ahead behind undecided ahead' behind' undecided' found) where
  pub trial_solves : found ≡ true
      → Solves sheet ranks pairs visit low high ahead behind undecided ahead' behind' undecided'
  trial_solves out = record {
    holds = λ U told decided so depth h.
        let (all, (tried, now)) = (tries.tried U told decided so).some_orders out in
        rw (solved_some U low high decided all tried depth h) now;
  }

  module _ (fails : found ≡ false)
      (asked : Triable sheet ranks pairs visit low high ahead behind undecided) where
    -- what U and which orders are asked of
    abbrev U : Unplanned
    U = asked.U

    abbrev decided : List Order
    decided = asked.decided

    pub two_ranks : suc low < high
    two_ranks = failed_many U low high decided ((tries.tried U asked.told decided asked.solved).no_orders fails).0

    kept : Solved U low decided ahead' behind' undecided'
    kept = ((tries.tried U asked.told decided asked.solved).no_orders fails).1

    pub lower_triable : Triable sheet ranks pairs visit low (middle low high) ahead' behind' undecided'
    lower_triable = record {
      rising = omega arith;
      U = U;
      told = asked.told;
      decided = decided;
      solved = kept;
    }

    module _ {ahead₂ behind₂ undecided₂ : List ℕ}
        (lower : Solves sheet ranks pairs visit low (middle low high) ahead' behind' undecided' ahead₂ behind₂ undecided₂) where
      pub upper_triable : Triable sheet ranks pairs visit (middle low high) high ahead₂ behind₂ undecided₂
      upper_triable = record {
        rising = omega (arith, two_ranks);
        U = U;
        told = asked.told;
        decided = solved U high low (middle low high) decided;
        solved = lower.holds U asked.told decided kept high (omega (arith, two_ranks));
      }

      pub halves_solve : {ahead₃ behind₃ undecided₃ : List ℕ}
          → Solves sheet ranks pairs visit (middle low high) high ahead₂ behind₂ undecided₂ ahead₃ behind₃ undecided₃
          → Solves sheet ranks pairs visit low high ahead behind undecided ahead₃ behind₃ undecided₃
      halves_solve {ahead₃} {behind₃} {undecided₃} upper = record {
        holds = λ U told decided so depth h.
            let (failed, so_far) = (tries.tried U told decided so).no_orders fails in
            let half = solved U high low (middle low high) decided in
            let whole = solved U high (middle low high) high half in
            let is = solved_halves U low high decided failed half whole
            (λ d l. solved_depth U high d low (middle low high) decided (omega (arith, two_ranks)) l)
            (λ d l. solved_depth U high d (middle low high) high half (omega (arith, two_ranks)) l) depth h in
            subst (λ (orders : List Order). Solved U high orders ahead₃ behind₃ undecided₃) is
            (upper.holds U told half (lower.holds U told decided so_far high (omega (arith, two_ranks))) high (omega (arith, two_ranks)));
      }
