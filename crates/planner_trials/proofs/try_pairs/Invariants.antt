-- Each turn chooses and decides; the trial from the orders of now is the trial from those of the start.
use Rattle.moves.specs.System.{sum}
use Rattle.planner_trials.proofs.Pairs.{SoFar}
use Rattle.planner_trials.proofs.try_pairs.Given as goal

abbrev pub invariant-loop-choice : goal.invariant-loop-choice
invariant-loop-choice l = SoFar l.known.sheet.now l.known.ranks l.known.visit l.initial.present.ahead l.initial.present.behind
    l.initial.present.undecided l.present.ahead l.present.behind l.present.undecided l.run

abbrev pub decreases-loop-choice : goal.decreases-loop-choice
decreases-loop-choice l = sum l.present.undecided
