-- Each way out is what its test says of the record.
use mathlib.Core.Path.{◌≡◌, sym, ◌∙◌}
use mathlib.Core.Bool.{false≢true}
use native.Mathlib.Omega.{arith}
use lib.ListN.{length}
use Rattle.judge_entering.proofs.Holding.{front_16}
use Rattle.moving_record.proofs.Left.{tables_routes, gone_routes}
use Rattle.moving_record.proofs.Testing.{past_out, miscounted, out_of_turn, out_of_line, reached_as}
use borrow.Author.Rules.{rules}
use Rattle.moving_record.proofs.test_record.Goals as goal

pub none_past_out-requires : goal.none_past_out-requires
none_past_out-requires c = tables_routes _ _ _ _ c.requires

pub returns-then-not-none_past_out : goal.returns-then-not-none_past_out
returns-then-not-none_past_out c = past_out _ _ c.requires _ (search rules)
    (λ all. false≢true (sym c.if-not-none_past_out.true ∙ c.none_past_out.ensures.1 all))

pub sum_of-requires : goal.sum_of-requires
sum_of-requires c = let sized : length c.args.lent.position ≡ 16 = search rules in
    (omega arith, omega (arith, sized))

pub returns-then-lent-sum_of : goal.returns-then-lent-sum_of
returns-then-lent-sum_of c = miscounted _ _ c.requires _ (search rules) _ c.sum_of.ensures.0 c.if-lent-sum_of.true

pub who_visits-left-requires : goal.who_visits-left-requires
who_visits-left-requires c = gone_routes _ _ _ _ c.requires c.args.lent.position (c.none_past_out.ensures.0
    c.if-not-none_past_out.false) _ c.zones_left.ensures

pub all_in_turn-requires : goal.all_in_turn-requires
all_in_turn-requires c = tables_routes _ _ _ _ c.requires

pub returns-then-not-all_in_turn : goal.returns-then-not-all_in_turn
returns-then-not-all_in_turn c = out_of_turn _ _ c.requires _ (search rules) (c.none_past_out.ensures.0 c.if-not-none_past_out.false) _
    c.zones_left.ensures _ c.who_visits-left.ensures
    (λ all. false≢true (sym c.if-not-all_in_turn.true ∙ c.all_in_turn.ensures.1 all))

pub all_in_line-requires : goal.all_in_line-requires
all_in_line-requires c = λ _ l. front_16 _ _ c.args.ground.now.lanes_are _ l

pub returns-then-not-all_in_line : goal.returns-then-not-all_in_line
returns-then-not-all_in_line c = out_of_line _ _ c.requires _ (search rules) _ c.args.ground.now.lanes_are
    (λ all. false≢true (sym c.if-not-all_in_line.true ∙ c.all_in_line.ensures.1 all))

pub returns : goal.returns
returns c = reached_as _ _ c.requires _ (search rules) (c.none_past_out.ensures.0 c.if-not-none_past_out.false) _
    c.zones_left.ensures _ c.who_visits-left.ensures _ c.sum_of.ensures.0 c.if-lent-sum_of.false
    (c.all_in_turn.ensures.0 c.if-not-all_in_turn.false) _ c.args.ground.now.lanes_are
    (c.all_in_line.ensures.0 c.if-not-all_in_line.false)
