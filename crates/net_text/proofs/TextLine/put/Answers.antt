-- The word and then each number, stored one after the other.
use Prim.Native.Nat.{ℕ}
use mathlib.Core.Path.{ap, sym, ◌∙◌}
use mathlib.Core.List.{List}
use native.Mathlib.Omega.{arith}
use lib.Seq.{sets}
use Rattle.net_text.proofs.LineLaws.{put_sets, line_stored}
use Rattle.net_text.proofs.TextLine.put.Goals as goal

pub returns : goal.returns
returns c = let shows = c.parts.ensures in
    let room = c.args.room.now in
    line_stored _ room c.args.at c.parts.result.1 shows.ten
    (put_sets room _ _ c.args.at _ c.copy_from_slice.ensures.after (omega (arith, shows.ten)) (omega arith))
    c.put_number.ensures c.put_number-2.ensures c.put_number-3.ensures c.put_number-4.ensures
    ∙ ap (λ (l : List ℕ). sets room c.args.at l) (sym shows.text)
