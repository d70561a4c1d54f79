-- Turns of the carts that are not out, until none moves: what they keep, and whether all are out then.
use Prim.Native.Nat.{ℕ, ◌-◌, ◌≤◌, ◌<◌}
use mathlib.Core.Path.{◌≡◌, refl, sym, ap, subst, ◌∙◌}
use mathlib.Core.Logic.{inl, inr}
use mathlib.Core.Bool.{Bool, true, false, true≢false, false≢true}
use mathlib.Core.List.{List}
use native.Mathlib.Decide.{ℕ_discrete}
use native.Mathlib.Nat.{le_refl}
use native.Mathlib.Omega.{arith}
use lib.ListN.{set, replicate, length-replicate}
use lib.Seq.{get_or-set_other}
use lib.Dec.{eqb}
use Rattle.std.specs.Bool.{then_some}
use Rattle.words.proofs.Tests.{eqb_says, same_test}
use Rattle.sets.specs.inner.Member.{has, Without, Within, Lowest, Rest}
use Rattle.sets.proofs.Laws.{has_none, has_same, without_gone, without_other}
use Rattle.moves.specs.System.{System, carts, pos, start, sum}
use Rattle.moves.specs.Moves.{Permitted}
use Rattle.moves.specs.Runs.{end}
use Rattle.moves.specs.inner.Runs.{Stuck}
use Rattle.moves.specs.inner.Records.{Reached}
use Rattle.moves.proofs.Positions.{zeros_pos, ≼-sum}
use Rattle.moves.proofs.Runs.{start_in_range, reaches_here}
use Rattle.moves.proofs.Ends.{end_unique}
use Rattle.moves.proofs.Out.{out_or_not}
use Rattle.routes.specs.Crossing.{Crossing, steps}
use Rattle.routes.specs.Moves.{system}
use Rattle.times.specs.Times.{Given}
use Rattle.times.specs.Running.{is_out}
use Rattle.times.proofs.Running.{end_says}
use Rattle.crossing.specs.inner.Sound.{Sound}
use Rattle.judge_running.specs.inner.Rounds.{InsideSet}
use Rattle.judge_running.proofs.Inside.{inside_kept, inside_out, held_wants}
use Rattle.judge_all_out.specs.inner.Turns.{HaveMoved, GoneOn, Turned}
use Rattle.judge_all_out.proofs.OneCart.{in_range}

module _ (X : Crossing) where
  abbrev S : System
  S = system X

  -- ---- a turn of the carts

  -- the carts of `turn` are still to be asked, and `inside` are those that are not out; `moved` says whether any has moved from `old`,
  -- where those of `before` were not out
  pub record Turning (old at left : List ℕ) (before turn inside : ℕ) (moved : Bool) : Type 0 where
    pub have_moved : HaveMoved X at left
    pub inside_is : InsideSet X at inside
    pub not_out : Within turn inside
    pub no_less : sum old ≤ sum at
    pub further : moved ≡ true → sum old < sum at
    pub same : moved ≡ false → inside ≡ before
    pub none_yet : moved ≡ false → (d : ℕ) → Permitted S at d → has turn d ≡ true

  pub turning_start : (at left : List ℕ) (inside : ℕ) → HaveMoved X at left → InsideSet X at inside → Turning at at left inside inside inside false
  turning_start at left inside on is = record {
    have_moved = on;
    inside_is = is;
    not_out = λ _ e. e;
    no_less = le_refl (sum at);
    further = λ e. absurd (false≢true e);
    same = λ _. refl;
    none_yet = λ _ d m. (is.not_out d).1 m.not_out;
  }

  module _ (old at left : List ℕ) (before turn inside : ℕ) (moved : Bool) (on : Turning old at left before turn inside moved) where
    -- the lowest cart of the turn is not out
    module _ (c rest : ℕ) (low : Lowest turn c) (without : Rest turn rest) where
      member : has inside c ≡ true
      member = on.not_out c low.member

      pub turning_wants : (k : ℕ) → steps X c ≡ k → pos at c < k
      turning_wants k counted = omega (arith, counted, on.inside_is.wants c member)

      remain : (d : ℕ) → ¬ (d ≡ c) → has rest d ≡ has turn d
      remain = without_other turn c rest (without.others c low)

      others_in : (still : ℕ) → ((d : ℕ) → ¬ (d ≡ c) → has inside d ≡ true → has still d ≡ true) → Within rest still
      others_in still stay d e =
          let other : ¬ (d ≡ c) = λ q. false≢true (sym (without_gone turn c rest (without.others c low)) ∙ rw q at e) in
          stay d other (on.not_out d (sym (remain d other) ∙ e))

      -- and is held
      pub turning_held : ¬ (Permitted S at c) → Turning old at left before rest inside moved
      turning_held held = record {
        have_moved = on.have_moved;
        inside_is = on.inside_is;
        not_out = others_in inside (λ _ _ e. e);
        no_less = on.no_less;
        further = on.further;
        same = on.same;
        none_yet = λ none d m. elim (ℕ_discrete d c) [ yes e ↦ absurd (held (rw e at m)) | no n ↦ remain d n ∙ on.none_yet none d m ];
      }

      -- or goes on
      module _ (to : ℕ) (left' : List ℕ) (gone : GoneOn X at (set at c to) left' c) where
        apart : (d : ℕ) → ¬ (d ≡ c) → pos (set at c to) d ≡ pos at d
        apart d n = get_or-set_other at c d to 0 n

        turning_on : (still : ℕ) → InsideSet X (set at c to) still → ((d : ℕ) → ¬ (d ≡ c) → has inside d ≡ true → has still d ≡ true)
            → Turning old (set at c to) left' before rest still true
        turning_on still is stay = record {
          have_moved = gone.have_moved;
          inside_is = is;
          not_out = others_in still stay;
          no_less = omega (arith, on.no_less, gone.further);
          further = λ _. omega (arith, on.no_less, gone.further);
          same = λ e. absurd (true≢false e);
          none_yet = λ e. absurd (true≢false e);
        }

        -- and comes out
        pub turning_out : (k fewer : ℕ) → steps X c ≡ k → k < pos (set at c to) c → Without inside c fewer
            → Turning old (set at c to) left' before rest fewer true
        turning_out k fewer counted past taken =
            turning_on fewer (inside_out X at (set at c to) c inside on.inside_is member apart fewer (omega arith) taken)
            (λ d n e. without_other inside c fewer taken d n ∙ e)

        -- or stays inside
        pub turning_stays : (k : ℕ) → steps X c ≡ k → pos (set at c to) c ≤ k → Turning old (set at c to) left' before rest inside true
        turning_stays k counted within =
            turning_on inside (inside_kept X at (set at c to) c inside on.inside_is member apart wants_more) (λ _ _ e. e)
          where
            -- out of its last zone it would have gone
            wants_more : pos (set at c to) c < steps X c
            wants_more =
                held_wants X (set at c to) c gone.have_moved.standing.only (omega (arith, on.inside_is.wants c member)) (omega arith) gone.held_or_out

    -- the turn is over
    pub turning_end : turn ≤ 0 → Turned X old at left before (then_some moved inside)
    turning_end none = go moved on.further on.same on.none_yet
      where
        empty : turn ≡ 0
        empty = omega arith

        go : (b : Bool) → (b ≡ true → sum old < sum at) → (b ≡ false → inside ≡ before) → (b ≡ false → (d : ℕ) → Permitted S at d → has turn d ≡ true)
            → Turned X old at left before (then_some b inside)
        go true further same none_yet = (on.have_moved, on.inside_is, further refl)
        go false further same none_yet = (
          on.have_moved,
          subst (λ (set : ℕ). InsideSet X at set) (same refl) on.inside_is,
          λ d m. false≢true (sym (has_none d) ∙ ap (λ (set : ℕ). has set d) (sym empty) ∙ none_yet refl d m),
        )

  -- ---- until nothing moves

  -- all in their lanes
  pub moved_none : (G : Given) (lanes zones : ℕ) → Sound X G → carts S ≡ lanes → zones ≡ 24 → HaveMoved X (replicate lanes 0) (replicate zones 0)
  moved_none G lanes zones sound all sized = record {
    standing = record {
      once = sound.once;
      only = sound.only;
      zone_below = sound.zone_below;
      steps_most = sound.ranged.steps_most;
      left_is = λ z d. (
        λ e. absurd (false≢true (sym (has_none d) ∙ rw (zeros_pos zones z) at e)),
        λ h. absurd (omega (arith, h.past, zeros_pos lanes d)),
      );
    };
    reached = subst (λ (n : ℕ). Reached S (replicate n 0)) all (reaches_here S (start S));
    left_24 = length-replicate zones 0 ∙ sized;
  }

  -- the moves left to make
  abbrev pub moves_left : List ℕ → ℕ
  moves_left at = sum S.out - sum at

  pub fewer_left : (old at left : List ℕ) → HaveMoved X at left → sum old < sum at → moves_left at < moves_left old
  fewer_left old at left on further =
      let here = in_range X at left on in
      omega (arith, further, ≼-sum at S.out here.sized here.within)

  -- all are out where none is inside
  module _ (at left : List ℕ) (inside : ℕ) (on : HaveMoved X at left) (is : InsideSet X at inside) (over : Stuck S at) where
    is_end : at ≡ end S (start S)
    is_end = end_unique S (start S) at (start_in_range S) on.reached over

    none_inside : inside ≡ 0 → at ≡ S.out
    none_inside none =
        elim (out_or_not S at (in_range X at left on)) [
          | inl out ↦ out
          | inr (c, low) ↦ absurd (false≢true (sym (has_none c) ∙ ap (λ (set : ℕ). has set c) (sym none) ∙ (is.not_out c).1 low.not_out))
        ]

    all_outside : at ≡ S.out → inside ≡ 0
    all_outside out = has_same inside 0 (λ c. same_test _ _ (λ e. absurd (inside_it c e)) (λ e. absurd (false≢true (sym (has_none c) ∙ e))))
      where
        inside_it : (c : ℕ) → ¬ (has inside c ≡ true)
        inside_it c e = omega (arith, (is.not_out c).0 e, ap (λ (s : List ℕ). pos s c) out)

    pub settling_end : eqb inside 0 ≡ is_out X
    settling_end =
        same_test _ _ (λ e. (end_says X).1 (sym is_end ∙ none_inside ((eqb_says inside 0).0 e)))
        (λ e. (eqb_says inside 0).1 (all_outside (is_end ∙ (end_says X).0 e)))
