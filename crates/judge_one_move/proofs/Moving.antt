-- One permitted move, of each kind, keeps what the tables of a run hold: the entered step's time is put, and the left zone's.
use Prim.Native.Nat.{ℕ, suc, ◌+◌, ◌*◌, ◌-◌, ◌≤◌, ◌<◌}
use mathlib.Core.Path.{◌≡◌, refl, sym, ap, ◌∙◌}
use mathlib.Core.Logic.{◌⊎◌, inl, inr}
use mathlib.Core.List.{List}
use native.Mathlib.Nat.{le_trans}
use native.Mathlib.Omega.{arith}
use lib.ListN.{length, get_or, set, length-set}
use lib.Seq.{get_or-set_same, get_or-set_other}
use Rattle.words.specs.inner.Limits.{latest_entering, latest_leaving}
use Rattle.moves.specs.System.{System, pos, start}
use Rattle.moves.specs.inner.System.{InRange}
use Rattle.moves.specs.Moves.{moved, Permitted}
use Rattle.moves.specs.inner.Records.{Closed}
use Rattle.moves.proofs.Positions.{moved_same, moved_up}
use Rattle.moves.proofs.Moves.{permitted_cart}
use Rattle.moves.proofs.Runs.{start_in_range, reaches_moved, reaches_in_range}
use Rattle.moves.proofs.Records.{start_closed, reaches_closed}
use Rattle.routes.specs.Crossing.{Crossing, route, steps, zone, step_in, HasLeft}
use Rattle.routes.specs.Moves.{system}
use Rattle.routes.proofs.Places.{place_first, place_is}
use Rattle.routes.proofs.Moves.{carts_are, step_cart}
use Rattle.times.specs.Times.{Given, leaving, entering}
use Rattle.times.specs.inner.Times.{EnteredTimes}
use Rattle.times.proofs.Rules.{leaving_cases, leaving_up}
use Rattle.times.proofs.Entered.{moved_entered}
use Rattle.times.proofs.Bounds.{next_bound}
use Rattle.judge_entering.specs.Times.{times_of}
use Rattle.judge_entering.specs.inner.Times.{AtMost}
use Rattle.judge_one_move.specs.inner.Standing.{Standing}
use Rattle.judge_one_move.specs.inner.Running.{ZoneLeft, Running}
use Rattle.judge_one_move.proofs.Left.{WasIn, left_cases, none_left, left_same, left_joined}
use Rattle.judge_one_move.proofs.Stored.{most_stored}

module _ (X : Crossing) (G : Given) (at left leave enter : List ℕ) (run : Running X G at left leave enter) where
  abbrev S : System
  S = system X

  pub in_range : InRange S at
  in_range = reaches_in_range S (start S) at (start_in_range S) run.reached

  pub standing : Standing X at left
  standing = record {
    once = run.sound.once;
    only = run.sound.only;
    zone_below = run.sound.zone_below;
    steps_most = run.sound.ranged.steps_most;
    left_is = run.left_is;
  }

  closed : Closed S at
  closed = reaches_closed S (start S) at (start_closed S) run.reached

  step_16 : (d j : ℕ) → j < steps X d → d < 16
  step_16 d j h = omega (arith, step_cart X d j h, carts_are X, run.sound.ranged.carts_most)

  -- times that agree on the steps entered
  abbrev Kept : List ℕ → Type 0
  Kept more = (d q : ℕ) → q < pos at d → q < steps X d → times_of enter d q ≡ times_of more d q

  -- give the same leaving times of the zones left
  leaving_kept : (more : List ℕ) → Kept more → (d z : ℕ) → HasLeft X at d z
      → leaving X G (times_of enter) d (step_in X d z) ≡ leaving X G (times_of more) d (step_in X d z)
  leaving_kept more kept d z h =
      let k = step_in X d z in
      let first : step_in X d z ≤ h.step = place_first (route X d) z h.step h.is_step h.there in
      let here : times_of enter d (step_in X d z) ≡ times_of more d (step_in X d z) = kept d k (omega (arith, h.past)) (omega (arith, h.is_step)) in
      let next : suc (step_in X d z) < steps X d → times_of enter d (suc (step_in X d z)) ≡ times_of more d (suc (step_in X d z)) = λ below. kept d
      (suc k) (omega (arith, h.past)) below in
      omega (
        arith,
        leaving_up X G (times_of enter) (times_of more) d k (omega arith) (λ below. omega (arith, next below)),
        leaving_up X G (times_of more) (times_of enter) d k (omega arith) (λ below. omega (arith, next below)),
      )

  module _ (c : ℕ) (m : Permitted S at c) where
    inside : c < length at
    inside = omega (arith, permitted_cart S at c m, in_range.sized)

    -- ---- a step is entered

    module _ (below : pos at c < steps X c) (x time : ℕ) (x_is : x ≡ 8 * c + pos at c)
        (time_is : time ≡ entering X G (times_of enter) c (pos at c)) where
      few : (d q : ℕ) → q < steps X d → q < 8
      few d q h = omega (arith, run.sound.ranged.steps_most d)

      x_inside : x < length enter
      x_inside = omega (arith, run.enter_128, step_16 c (pos at c) below, few c (pos at c) below)

      apart : (d q : ℕ) → q < 8 → ¬ ((d ≡ c) × (q ≡ pos at c)) → times_of enter d q ≡ times_of (set enter x time) d q
      apart d q h n =
          sym (get_or-set_other enter x (8 * d + q) time 0 (λ e. let p = few c (pos at c) below in n (omega arith, omega arith)))

      entered_kept : Kept (set enter x time)
      entered_kept d q before h = apart d q (few d q h) (λ (cart, step). omega (arith, ap (pos at) cart))

      entered_here : times_of (set enter x time) c (pos at c) ≡ time
      entered_here = ap (λ (y : ℕ). get_or (set enter x time) y 0) (sym x_is) ∙ get_or-set_same enter x time 0 x_inside

      entered_is : EnteredTimes X G (moved at c) (times_of (set enter x time))
      entered_is =
          moved_entered X G run.sound.only at c closed m (times_of enter) (times_of (set enter x time)) run.enter_is entered_kept
          (λ _. entered_here ∙ time_is)

      time_most : time ≤ latest_entering
      time_most = rw time_is (next_bound X G run.sound.only run.sound.ranged (times_of enter) at run.reached run.enter_is c m below)

      entered_most : AtMost latest_entering (set enter x time)
      entered_most = most_stored latest_entering enter x time run.enter_most x_inside time_most

      others_not : (d q : ℕ) → q < 8 → ¬ ((q < pos (moved at c) d) × (q < steps X d)) → times_of (set enter x time) d q ≡ 0
      others_not d q h n =
          sym (apart d q h (λ (cart, step). n (rw (cart, step) (omega (arith, moved_same at c inside), below))))
          ∙ run.not_entered d q h (λ (before, is_step). n (le_trans before (moved_up at c d), is_step))

    -- ---- a zone is left

    module _ (j y time : ℕ) (was : WasIn X at c y j) where
      here_once : (h : HasLeft X at c y) → ⊥
      here_once h =
          let first = place_is (route X c) y (run.sound.once c) h.step h.is_step h.there in
          let again = place_is (route X c) y (run.sound.once c) j was.0 was.1 in
          omega (arith, h.past, was.2, first, again)

      elsewhere : (d z : ℕ) → HasLeft X at d z → ¬ (16 * z + d ≡ 16 * y + c)
      elsewhere d z h e =
          let few = step_16 d h.step h.is_step in
          let own = step_16 c j was.0 in
          let cart : d ≡ c = omega arith in
          let same : z ≡ y = omega arith in
          here_once (rw (cart, same) at h)

      y_inside : 16 * y + c < length leave
      y_inside = omega (arith, run.leave_384, was.1, run.sound.zone_below c j was.0, step_16 c j was.0)

      leave_now : (after : List ℕ) → Kept after → time ≡ leaving X G (times_of after) c j → (z d : ℕ) → HasLeft X (moved at c) d z
          → get_or (set leave (16 * y + c) time) (16 * z + d) 0 ≡ leaving X G (times_of after) d (step_in X d z)
      leave_now after kept time_is z d h = go (left_cases X at c d z h)
        where
          go : HasLeft X at d z ⊎ ((d ≡ c) × ((k : ℕ) × WasIn X at c z k))
              → get_or (set leave (16 * y + c) time) (16 * z + d) 0 ≡ leaving X G (times_of after) d (step_in X d z)
          go (inl old) =
              get_or-set_other leave (16 * y + c) (16 * z + d) time 0 (elsewhere d z old) ∙ run.leave_is z d old ∙ leaving_kept after kept d z old
          go (inr (cart, (k, (_, there, step)))) =
              let same : z ≡ y = sym there ∙ ap (zone X c) (omega (arith, was.2)) ∙ was.1 in
              rw (cart, same)
              (get_or-set_same leave (16 * y + c) time 0 y_inside
              ∙ time_is
              ∙ ap (leaving X G (times_of after) c) (sym (place_is (route X c) y (run.sound.once c) j was.0 was.1)))

    -- ---- the three kinds of moves

    -- into the first zone
    pub running_first : (x time : ℕ) → 0 < steps X c → pos at c ≡ 0 → x ≡ 8 * c
        → time ≡ entering X G (times_of enter) c (pos at c) → Running X G (moved at c) left leave (set enter x time)
    running_first x time some at_start x_is time_is = record {
      sound = run.sound;
      reached = reaches_moved S (start S) at c run.reached m;
      left_24 = run.left_24;
      leave_384 = run.leave_384;
      enter_128 = length-set enter x time ∙ run.enter_128;
      left_is = left_same X at c left run.left_is at_start;
      leave_is = λ z d h. run.leave_is z d (old d z h) ∙ leaving_kept (set enter x time) (entered_kept below x time x_at time_is) d z (old d z h);
      leave_most = run.leave_most;
      enter_is = entered_is below x time x_at time_is;
      enter_most = entered_most below x time x_at time_is;
      not_entered = others_not below x time x_at time_is;
    }
      where
        below : pos at c < steps X c
        below = omega arith

        x_at : x ≡ 8 * c + pos at c
        x_at = omega arith

        old : (d z : ℕ) → HasLeft X (moved at c) d z → HasLeft X at d z
        old = none_left X at c at_start

    -- from a zone into the next
    pub running_next : (x time j y : ℕ) (more after : List ℕ) → suc j ≡ pos at c → pos at c < steps X c → zone X c j ≡ y → x ≡ 8 * c + pos at c
        → time ≡ entering X G (times_of enter) c (pos at c) → ZoneLeft left leave more after y c (time - G.travel c j)
        → Running X G (moved at c) more after (set enter x time)
    running_next x time j y more after step below there x_is time_is gone = record {
      sound = run.sound;
      reached = reaches_moved S (start S) at c run.reached m;
      left_24 = gone.left_24;
      leave_384 = ap length gone.stored ∙ length-set leave (16 * y + c) value ∙ run.leave_384;
      enter_128 = length-set enter x time ∙ run.enter_128;
      left_is = left_joined X at c left run.left_is inside y j was more gone.joins;
      leave_is = rw gone.stored (leave_now j y value was (set enter x time) (entered_kept below x time x_is time_is) value_is);
      leave_most =
          rw gone.stored
          (most_stored latest_leaving leave (16 * y + c) value run.leave_most (y_inside j y value was)
          (omega (arith, time_most below x time x_is time_is)));
      enter_is = entered_is below x time x_is time_is;
      enter_most = entered_most below x time x_is time_is;
      not_entered = others_not below x time x_is time_is;
    }
      where
        value : ℕ
        value = time - G.travel c j

        was : WasIn X at c y j
        was = (omega arith, there, step)

        value_is : value ≡ leaving X G (times_of (set enter x time)) c j
        value_is =
            elim (leaving_cases X G (times_of (set enter x time)) c j) [
              | inl (_, is) ↦
                  ap (λ (t : ℕ). t - G.travel c j) (sym (entered_here below x time x_is time_is) ∙ ap (times_of (set enter x time) c) (sym step))
                  ∙ sym is
              | inr (last, _) ↦ absurd (omega (arith, last))
            ]

    -- out of the last zone
    pub running_out : (j y : ℕ) (more after : List ℕ) → suc j ≡ pos at c → pos at c ≡ steps X c → zone X c j ≡ y
        → ZoneLeft left leave more after y c (times_of enter c j + G.passing c j) → Running X G (moved at c) more after enter
    running_out j y more after step last there gone = record {
      sound = run.sound;
      reached = reaches_moved S (start S) at c run.reached m;
      left_24 = gone.left_24;
      leave_384 = ap length gone.stored ∙ length-set leave (16 * y + c) value ∙ run.leave_384;
      enter_128 = run.enter_128;
      left_is = left_joined X at c left run.left_is inside y j was more gone.joins;
      leave_is = rw gone.stored (leave_now j y value was enter (λ d q _ _. refl) value_is);
      leave_most =
          rw gone.stored
          (most_stored latest_leaving leave (16 * y + c) value run.leave_most (y_inside j y value was)
          (omega (arith, run.enter_most (8 * c + j), run.sound.ranged.passing_most c j was.0)));
      enter_is =
          moved_entered X G run.sound.only at c closed m (times_of enter) (times_of enter) run.enter_is (λ d q _ _. refl) (λ h. absurd (omega arith));
      enter_most = run.enter_most;
      not_entered = λ d q h n. run.not_entered d q h (λ (before, is_step). n (le_trans before (moved_up at c d), is_step));
    }
      where
        value : ℕ
        value = times_of enter c j + G.passing c j

        was : WasIn X at c y j
        was = (omega arith, there, step)

        value_is : value ≡ leaving X G (times_of enter) c j
        value_is =
            elim (leaving_cases X G (times_of enter) c j) [ inl (next, _) ↦ absurd (omega (arith, next)) | inr (_, is) ↦ sym is ]
