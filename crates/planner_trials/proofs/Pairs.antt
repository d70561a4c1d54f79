-- What is tried from here on is what was tried at the start: each turn of the loop is a turn of the trial.
use Prim.Native.Nat.{ℕ, ◌<◌}
use mathlib.Core.Path.{◌≡◌, refl, sym, ap, ◌∙◌}
use mathlib.Core.Bool.{true, false, true≢false}
use mathlib.Core.Option.{none}
use mathlib.Core.List.{List}
use Rattle.sheet_table.specs.inner.Parts as parts
use Rattle.moves.specs.System.{sum}
use Rattle.crossing.specs.inner.Tables.{crossing_of, given_of}
use Rattle.removal.specs.Pairs.{Unplanned, Order}
use Rattle.removal.specs.Removal.{trial}
use Rattle.removal.proofs.Turns.{turn_more, trial_more, trial_stop}
use Rattle.planner_orders.specs.inner.Holds.{Holds}
use Rattle.planner_costs.specs.declared.Choice.{Choice}
use Rattle.planner_trials.specs.inner.Turns.{comes_out, RunsOut, Underway, OfAll, Chooses, Choosable, Chosen, Decidable, Decided, OnTrial, AllTried}
use Rattle.judge_one_move.specs.declared.Run.{Run}
use Rattle.std.specs.Prelude.{Option, Some, None}
use Rattle.planner_trials.proofs.Falling.{undecided_falls}
use Rattle.sheet_table.specs.declared.Table.{Table}

-- the trial has come from the orders `before` to others, which the tables hold
pub record Reaches (U : Unplanned) (low high : ℕ) (before : List Order) (ahead behind undecided : List ℕ) : Type 0 where
  pub decided : List Order
  pub same : trial U low high before ≡ trial U low high decided
  pub holds : Holds U low high decided ahead behind undecided

module _ (sheet : Table) (ranks visit ahead₀ behind₀ undecided₀ : List ℕ) where
  abbrev AtStart : ((U : Unplanned) (low high : ℕ) (decided : List Order) → Type 0) → Type 0
  AtStart Claim = (pairs : List ℕ) → OfAll sheet ranks pairs visit ahead₀ behind₀ undecided₀ Claim

  pub record SoFar (ahead behind undecided : List ℕ) (run : Run) : Type 0 where
    pub runs : RunsOut (crossing_of sheet ahead) (given_of sheet) run
    pub reaches : AtStart (λ U low high before. Reaches U low high before ahead behind undecided)

  module _ (first : Run) (on : OnTrial sheet ranks visit ahead₀ behind₀ undecided₀ first) where
    pub tried_none : SoFar ahead₀ behind₀ undecided₀ first
    tried_none = record {
      runs = on.runs_out;
      reaches = λ _ U low high before told holds. record { decided = before; same = refl; holds = holds };
    }

    module _ (ahead behind undecided : List ℕ) (run : Run) (so_far : SoFar ahead behind undecided run) where
      -- the trial under way now
      abbrev now : Underway sheet ranks on.pairs visit ahead behind undecided
      now =
          let t = on.underway in
          let r = so_far.reaches on.pairs t.U t.low t.high t.decided t.told t.holds in
          record { U = t.U; low = t.low; high = t.high; decided = r.decided; told = t.told; holds = r.holds }

      pub pairs_choosable : Choosable sheet ranks visit behind undecided run
      pairs_choosable = record { pairs = on.pairs; ahead = ahead; underway = now; runs_out = so_far.runs }

      module _ (choice : Option Choice) (chosen : Chosen sheet ranks visit behind undecided run choice) where
        -- no pair is left undecided
        pub pairs_tried : choice ≡ None → AllTried sheet ranks visit ahead₀ behind₀ undecided₀ ahead behind undecided true
        pairs_tried none_found = record {
          ends = λ pairs U low high before told holds.
              let r = so_far.reaches pairs U low high before told holds in
              let by = chosen.tells pairs ahead so_far.runs U low high r.decided told r.holds in
              record {
                some_orders = λ _. (r.decided, (r.same ∙ trial_stop U low high r.decided _ (by.none_left none_found), r.holds));
                no_orders = λ e. absurd (true≢false e);
              };
        }

        module _ (r : Choice) (found : choice ≡ Some r) where
          pub pairs_decidable : Decidable sheet visit ahead behind undecided r.step r.first
          pairs_decidable = record { ranks = ranks; pairs = on.pairs; underway = now; candidate = chosen.candidate r found }

          module _ (ahead' behind' undecided' : List ℕ) (next : Run) (stuck : Option ℕ)
              (by : Decided sheet visit ahead behind undecided r.step r.first ahead' behind' undecided' next stuck) where
            abbrev tells : (pairs : List ℕ) → OfAll sheet ranks pairs visit ahead behind undecided
                (λ U low high decided. Chooses U low high decided (parts.zone sheet) choice)
            tells pairs = chosen.tells pairs ahead so_far.runs

            -- the order is decided, and the trial goes on
            module _ (out : stuck ≡ None) where
              pub tried_more : SoFar ahead' behind' undecided' next
              tried_more = record {
                runs = rw out at by.runs;
                reaches = λ pairs U low high before told holds.
                    let was = so_far.reaches pairs U low high before told holds in
                    let (all, (is, held)) = (by.decides ranks pairs U low high was.decided told was.holds).one_more (ap comes_out out) in
                    record {
                      decided = all;
                      same = was.same ∙ trial_more U low high was.decided all ((tells pairs U low high was.decided told was.holds).taken r found ∙ is);
                      holds = held;
                    };
              }

              pub tries_fall : sum undecided' < sum undecided
              tries_fall =
                  let (all, (is, held)) = (by.decides ranks on.pairs now.U now.low now.high now.decided now.told now.holds).one_more (ap comes_out out) in
                  let turned = (tells on.pairs now.U now.low now.high now.decided now.told now.holds).taken r found ∙ is in
                  undecided_falls now.U now.low now.high now.decided all ahead behind undecided ahead' behind' undecided' now.holds held
                  (turn_more now.U now.low now.high now.decided all turned)

            -- neither direction came out
            pub pairs_failed : comes_out stuck ≡ false → AllTried sheet ranks visit ahead₀ behind₀ undecided₀ ahead' behind' undecided' false
            pairs_failed fails = record {
              ends = λ pairs U low high before told holds.
                  let was = so_far.reaches pairs U low high before told holds in
                  let is = (by.decides ranks pairs U low high was.decided told was.holds).fails fails in
                  record {
                    some_orders = λ e. absurd (true≢false (sym e));
                    no_orders = λ _. was.same ∙ trial_stop U low high was.decided none ((tells pairs U low high was.decided told was.holds).taken r found ∙ is);
                  };
            }
