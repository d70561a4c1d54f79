-- Request #106: what firing promises fixes the net's answer, and it is the judge's; and the text that the room then begins with is the net's.
use Prim.Native.Nat.{ℕ, ◌≤◌, ◌<◌}
use mathlib.Core.Path.{◌≡◌, refl, sym, ap, ap₂, ◌∙◌}
use mathlib.Core.Logic.{◌↔◌, ◌≢◌}
use mathlib.Core.Bool.{Bool, true, false, true≢false}
use mathlib.Core.List.{List}
use native.Mathlib.Decide.{dec_lt}
use native.Mathlib.Omega.{arith}
use lib.Dec.{lit<}
use lib.ListN.{length, get_or, take, drop, get_or-eq_default}
use lib.Seq.{take_at}
use Rattle.words.specs.Lists.{pick}
use Rattle.words.specs.Checks.{Check, first_failing, AllPass}
use Rattle.words.proofs.All.{all_first}
use Rattle.words.proofs.First.{pass_answers, first_answers, done_passes}
use Rattle.words.proofs.Says.{Says, check_says, ◌then◌}
use Rattle.words.proofs.Tests.{leb_says}
use Rattle.moves.specs.System.{pos, start}
use Rattle.moves.specs.inner.System.{InRange}
use Rattle.moves.proofs.Runs.{start_in_range, reaches_in_range}
use Rattle.moves.proofs.Ends.{end_reached}
use Rattle.routes.specs.Crossing.{Crossing}
use Rattle.routes.specs.Moves.{moves_of}
use Rattle.sheet.specs.Reading.{sheet_of}
use Rattle.sheet.proofs.Passing.{SheetPasses}
use Rattle.plan.specs.Reading.{reading_checks}
use Rattle.plan.specs.declared.PlanRead.{PlanRead}
use Rattle.plan.proofs.Passing.{PlanPasses, reading_says, passes_read, read_passes}
use Rattle.plan.proofs.Readable.{said_sheet}
use Rattle.judge.specs.Judging.{is_out, orders_read, judge}
use Rattle.judge.proofs.Verdict.{plan_carts, out_at, accepts_out}
use Rattle.judge.proofs.Outcomes.{judge_locked, number_locked}
use Rattle.judge.specs.declared.Judged.{Judged}
use Rattle.times.proofs.Running.{end_says}
use Rattle.net_firing.specs.Firing.{FiredOut}
use Rattle.net_firing.proofs.Answers.{fired_free, fired_locked, fired_end, fired_once}
use Rattle.net_text.specs.Lines.{net_text, net_lines, with_text}
use Rattle.net_text.proofs.NetLines.{lines_are, text_once}
use Rattle.net.specs.Netting.{not_netted, netted, room_of, net_checks, NetRunIs, room_after}
use Rattle.net.specs.declared.NetRun.{NetRun}
use Rattle.demands.specs.DemandOne.{AnswersOrRefuses, answers, refuses, NettingAPlan}
use Rattle.demands.specs.DemandTwo.{Readable, planned}
use Rattle.demands.specs.DemandThree.{rule, stuck}
use Rattle.demands.specs.PetriNet.{NetBeside, NetText}
use Rattle.demands.proofs.DemandThree.{only}

-- 1 where not all carts come out
abbrev locked_if : Bool → ℕ
locked_if out = pick out 0 1

module _ (s p : List ℕ) where
  abbrev X : Crossing
  X = planned s p

  -- ---- what firing fixes

  -- the judge's verdict
  abbrev verdict : ℕ
  verdict = locked_if (is_out (sheet_of s) (orders_read s p))

  module _ (readable : Readable s p) (locked : ℕ) (position : List ℕ) (fired : FiredOut X locked position) where
    locked_is : locked ≡ verdict
    locked_is = go (is_out (sheet_of s) (orders_read s p)) refl
      where
        go : (b : Bool) → is_out (sheet_of s) (orders_read s p) ≡ b → locked ≡ locked_if b
        go true e = (fired_free X (only s p readable) locked position fired).1 ((accepts_out (sheet_of s) (orders_read s p)).0 e)
        go false e =
            (fired_locked X (only s p readable) locked position fired).1 (λ all. true≢false (sym ((accepts_out (sheet_of s) (orders_read s p)).1 all) ∙ e))

    position_is : position ≡ stuck s p
    position_is = fired_end X (only s p readable) locked position fired (plan_carts (sheet_of s) (orders_read s p))

  -- the answer in the judge's words
  abbrev told : NetRun
  told = netted (length (net_text X)) verdict (stuck s p)

  module _ (room : ℕ) where
    abbrev checks : List Check
    checks = net_checks s p room

    passed_readable : AllPass checks → Readable s p
    passed_readable all =
        ap (λ (r : PlanRead). r.outcome.number) (passes_read s p (all_first (λ (c : Check). c.passed ≡ true) (reading_checks s p) _ all))

    told_is : (locked : ℕ) (position : List ℕ) → (AllPass checks → FiredOut X locked position) → AllPass checks
        → netted (length (net_text X)) locked position ≡ told
    told_is locked position fired all =
        ap₂ (netted (length (net_text X))) (locked_is (passed_readable all) locked position (fired all))
        (position_is (passed_readable all) locked position (fired all))

    checks_say : Says checks ((SheetPasses s × PlanPasses (sheet_of s) p) × (length (net_text X) ≤ room))
    checks_say = reading_says s p then check_says _ (lit< tt) (leb_says (length (net_text X)) room)

    pub net_is : (r : NetRun) → NetRunIs s p room r → r ≡ first_failing not_netted told checks
    net_is r is = is.answer ∙ first_answers not_netted _ told checks (told_is is.locked is.position is.fired)

  -- of two answers that keep demand 1's promise, each is as the other's firing says
  pub netted_as : (room : List ℕ) (r r' : NetRun) (after after' : List ℕ) → NettingAPlan s p room r after → (h : NettingAPlan s p room r' after')
      → AnswersOrRefuses not_netted (netted (length (net_text X)) h.locked h.position) (net_checks s p (length room)) r
  netted_as room r r' after after' g h = go g.answer
    where
      go : AnswersOrRefuses not_netted (netted (length (net_text X)) g.locked g.position) (net_checks s p (length room)) r
          → AnswersOrRefuses not_netted (netted (length (net_text X)) h.locked h.position) (net_checks s p (length room)) r
      go (answers all e) =
          let (locked, position) =
          fired_once X (only s p (passed_readable (length room) all)) (plan_carts (sheet_of s) (orders_read s p)) _ _ _ _ (g.fired all) (h.fired all) in
          answers all (e ∙ ap₂ (netted (length (net_text X))) locked position)
      go (refuses c f e) = refuses c f e

  -- ---- beside the judge

  module _ (readable : Readable s p) where
    locked_says : (words : ℕ) → (verdict ≡ 1) ↔ ((judge s p words).outcome.number ≡ 22)
    locked_says words = (to (is_out (sheet_of s) (orders_read s p)) refl, λ e. ap locked_if (number_locked s p words e).1)
      where
        to : (b : Bool) → is_out (sheet_of s) (orders_read s p) ≡ b → locked_if b ≡ 1 → (judge s p words).outcome.number ≡ 22
        to true e one = absurd (omega (arith, one))
        to false e one = ap (λ (r : Judged). r.outcome.number) (judge_locked s p readable e words)

    told_beside : NetBeside s p told
    told_beside = record {
      locked = locked_says;
      free = λ words. (
        λ zero e. omega (arith, zero, (locked_says words).1 e),
        λ not. go (is_out (sheet_of s) (orders_read s p)) refl (λ one. not ((locked_says words).0 one)),
      );
      same_positions = refl;
      all_out = λ zero. (end_says X).0 (out (is_out (sheet_of s) (orders_read s p)) refl zero);
      absent = λ c past. none c past (dec_lt c 16);
    }
      where
        range : InRange (rule s p) (stuck s p)
        range = reaches_in_range (rule s p) (start (rule s p)) (stuck s p) (start_in_range (rule s p)) (end_reached (rule s p) (start (rule s p)))

        none : (c : ℕ) → (sheet_of s).carts ≤ c → Dec (c < 16) → pos (stuck s p) c ≡ 0
        none c past (yes l) =
            let no_move : moves_of (get_or (sheet_of s).steps c 0) ≡ 0 = ap moves_of ((said_sheet s p readable).unused.no_steps c past) in
            omega (arith, range.within c, out_at (sheet_of s) (orders_read s p) c l, no_move)
        none c past (no m) =
            get_or-eq_default (stuck s p) 0 {n = c} (omega (arith, m, range.sized, plan_carts (sheet_of s) (orders_read s p)))

        go : (b : Bool) → is_out (sheet_of s) (orders_read s p) ≡ b → locked_if b ≢ 1 → locked_if b ≡ 0
        go true e n = refl
        go false e n = absurd (n refl)

        out : (b : Bool) → is_out (sheet_of s) (orders_read s p) ≡ b → locked_if b ≡ 0 → is_out (sheet_of s) (orders_read s p) ≡ true
        out true e zero = e
        out false e zero = absurd (omega (arith, zero))

  -- ---- of whatever the operation answers

  module _ (room : List ℕ) (r : NetRun) (is : NetRunIs s p (length room) r) where
    done_passed : r.outcome.number ≡ 0 → AllPass (checks (length room))
    done_passed e =
        done_passes (λ (x : NetRun). x.outcome) not_netted told (λ o. refl) (checks (length room)) (checks_say (length room)).numbered
        (sym (ap (λ (x : NetRun). x.outcome.number) (net_is (length room) r is)) ∙ e)

    passed_told : AllPass (checks (length room)) → r ≡ told
    passed_told all = net_is (length room) r is ∙ pass_answers not_netted told (checks (length room)) all

    pub net_beside : r.outcome.number ≡ 0 → NetBeside s p r
    net_beside e = let all = done_passed e in rw (passed_told all) (told_beside (passed_readable (length room) all))

    module _ (after : List ℕ) (holds : after ≡ room_after s p room) where
      -- what the room then begins with
      begins : r.outcome.number ≡ 0 → take r.length after ≡ net_text X
      unfolding room_of
      begins e =
          let all = done_passed e in
          rw (holds ∙ pass_answers (λ _. room) (with_text (net_text X) room) (checks (length room)) all, passed_told all)
          (take_at (net_text X) (drop (length (net_text X)) room) (length (net_text X)) refl)

      pub net_text_lem : NetText s p room r after
      unfolding net_text
      net_text_lem = record {
        answers = (
          λ e. let all = done_passed e in (passed_readable (length room) all, ((checks_say (length room)).passing all).1),
          λ (readable, fits). ap (λ (x : NetRun). x.outcome.number)
              (passed_told ((checks_say (length room)).passes ((reading_says s p).passing (read_passes s p readable), fits))),
        );
        written = λ e. (net_lines X, begins e, lines_are X (only s p (passed_readable (length room) (done_passed e))));
        no_second_net = λ e s' p' readable same part.
            text_once X (planned s' p') (only s p (passed_readable (length room) (done_passed e))) (only s' p' readable) (sym (begins e) ∙ same) part;
      }
