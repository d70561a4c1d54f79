-- The three characters are stored as one part.
use mathlib.Core.Path.{◌≡◌, ◌∙◌}
use mathlib.Core.List.{◌∷◌}
use native.Mathlib.Omega.{arith}
use Rattle.net_text.specs.Lines.{bytes}
use Rattle.net_text.specs.inner.Writing.{shown}
use Rattle.net_text.proofs.LineLaws.{put_sets, shown_length}
use Rattle.net_text.proofs.put_number.Goals as goal
use Rattle.net_text.proofs.put_number.Goals.{in-Some, in-None}

pub returns : goal.returns
unfolding bytes
returns c =
    let text : c.match-n.text ≡ 32 ∷ shown c.args.n
    = elim c.match-n.branch [
      | in-Some w ↦ rw (w.text-is, w.in-Some.is)
      | in-None w ↦ rw (w.text-is, w.in-None.is)
    ] in
    put_sets c.args.room.now _ _ c.args.at _ (c.copy_from_slice.ensures.after ∙ text) (omega (arith, shown_length c.args.n)) (omega arith)
