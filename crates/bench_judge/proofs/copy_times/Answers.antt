use Rattle.std.proofs.Common.{refl, ◌∙◌, arith}
use Rattle.bench_judge.proofs.Copying.{part_copied, all_copied}
use Rattle.bench_judge.proofs.copy_times.Goals as goal

pub returns : goal.returns
returns c =
    let from = c.args.from.now in
    let to = c.args.to.now in
    let first = part_copied from to 0 32 (omega arith) refl c.copy_from_slice.ensures.after in
    let second = part_copied from to 32 32 (omega arith) first c.copy_from_slice-2.ensures.after in
    let third = part_copied from to 64 32 (omega arith) second c.copy_from_slice-3.ensures.after in
    part_copied from to 96 32 (omega arith) third c.copy_from_slice-4.ensures.after ∙ all_copied from to 128 (omega arith) (omega arith)
