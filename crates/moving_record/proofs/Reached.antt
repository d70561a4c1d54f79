-- The test of a record is true exactly where a run of a plan that brings all carts out reaches it.
use mathlib.Core.Path.{◌≡◌, sym, ap, ◌∙◌}
use mathlib.Core.Logic.{◌↔◌}
use mathlib.Core.Bool.{true}
use native.Mathlib.Omega.{arith}
use lib.ListN.{length}
use lib.Dec.{eqb}
use Rattle.words.proofs.Tests.{eqb_says, and_says, and_both}
use Rattle.moves.specs.System.{System, carts, start, sum}
use Rattle.moves.specs.inner.System.{InRange}
use Rattle.moves.specs.inner.Runs.{AllComeOut}
use Rattle.moves.specs.Records.{is_in_range, is_closed}
use Rattle.moves.specs.inner.Records.{Reached, Closed}
use Rattle.moves.proofs.Positions.{zeros_sum}
use Rattle.moves.proofs.Runs.{start_in_range, run_sum}
use Rattle.moves.proofs.Records.{reached_iff, in_range_says, closed_says}
use Rattle.moving_record.specs.Record.{RunReaches, is_reached}
use Rattle.moving_record.specs.declared.Record.{Record}

module _ (S : System) (lent : Record) where
  -- what the test tests
  pub record PassesTest : Type 0 where
    pub range : InRange S lent.position
    pub closed : Closed S lent.position
    pub counted : lent.made ≡ sum lent.position

  pub reached_says : (is_reached S lent ≡ true) ↔ PassesTest
  unfolding is_reached
  reached_says = (
    λ e.
        let (range, rest) = and_both (is_in_range S lent.position) _ e in
        let (closed, counted) = and_both (is_closed S lent.position) _ rest in
        let in_range = (in_range_says S lent.position).0 range in
        record {
          range = in_range;
          closed = (closed_says S lent.position in_range.sized).0 closed;
          counted = (eqb_says lent.made (sum lent.position)).0 counted;
        },
    λ st.
        (and_says (is_in_range S lent.position) _ (in_range_says S lent.position)
        (and_says (is_closed S lent.position) (eqb lent.made (sum lent.position)) (closed_says S lent.position st.range.sized)
        (eqb_says lent.made (sum lent.position)))
        ).1 (st.range, (st.closed, st.counted)),
  )

  -- the moves of a run are the sum of the positions that it reaches
  run_moves : (x : Reached S lent.position) → sum lent.position ≡ length x.run
  run_moves x = sym (ap sum x.ends) ∙ omega (arith, run_sum S (start S) x.run (start_in_range S) x.is_run, zeros_sum (carts S))

  module _ (all : AllComeOut S (start S)) where
    pub reached_run : (is_reached S lent ≡ true) ↔ RunReaches S lent
    reached_run = (
      λ e.
          let st = reached_says.0 e in
          let x = (reached_iff S lent.position all).1 (st.range, st.closed) in
          record { reached = x; counted = st.counted ∙ run_moves x },
      λ by-run.
          let (range, closed) = (reached_iff S lent.position all).0 by-run.reached in
          reached_says.1 (record { range = range; closed = closed; counted = by-run.counted ∙ sym (run_moves by-run.reached) }),
    )
