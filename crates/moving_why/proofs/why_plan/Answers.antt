-- The test of record and cart decides, or the chain is followed; the ground is the sheet's and the orders'.
use mathlib.Core.Path.{◌∙◌}
use Rattle.plan_reader.proofs.ValidLaws.{valid_lanes}
use Rattle.moving_why.proofs.WhyLaws.{untested_in, followable_in, chain_in_lem}
use Rattle.moving_why.proofs.why_plan.Goals as goal

pub of-ground-requires : goal.of-ground-requires
of-ground-requires c = valid_lanes _ c.requires.valid

pub test_cart-requires : goal.test_cart-requires
test_cart-requires c = let (sheet, ahead) = c.of-ground.ensures in rw (sheet, ahead) record {
  zones = _;
  count = _;
  list = _;
  valid = c.requires.valid;
  valid_orders = c.requires.valid_orders;
}

pub chain_from-requires : goal.chain_from-requires
chain_from-requires c = let (sheet, ahead) = c.of-ground.ensures in
    rw (sheet, ahead) (followable_in _ _ _ _ _ _ (rw (sheet, ahead) at c.in-Ok.ensures) c.requires)

pub returns-in-Ok : goal.returns-in-Ok
returns-in-Ok c = λ n v w. (rw (c.of-ground.ensures.0, c.of-ground.ensures.1) at c.chain_from.ensures)
    ∙ chain_in_lem _ _ _ _ _ _ (rw (c.of-ground.ensures.0, c.of-ground.ensures.1) at c.in-Ok.ensures) n v w

pub returns-in-Err : goal.returns-in-Err
returns-in-Err c = let (sheet, ahead) = c.of-ground.ensures in
    λ n v w. c.no_chain.ensures ∙ untested_in _ _ _ _ _ _ (rw (sheet, ahead) at c.in-Err.ensures) n v w
