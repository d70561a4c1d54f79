-- The part from `start` to `start + length` has `length` bytes, and `find_list` says which.
use Prim.Native.Nat.{ℕ, ◌+◌}
use mathlib.Core.Path.{refl, ap, ◌∙◌}
use native.Mathlib.Nat.{add-sub_cancel_left}
use lib.ListN.{take, drop}
use Rattle.plan_zone_list.specs.declared.ListFound.{ListFound}
use Rattle.plan_zone_list.proofs.passing_list.Goals as goal

pub returns : goal.returns
returns c = let a = c.args in
    let f = c.find_list-found.result in
    let is = c.find_list-found.ensures.is in
    record {
      bytes =
          ap (λ (k : ℕ). take k (drop f.start a.p.now)) (add-sub_cancel_left f.start f.length)
          ∙ ap (λ (g : ListFound). take g.length (drop g.start a.p.now)) is;
      block = refl;
      place = ap (λ (g : ListFound). g.start + a.p.ref_ptr.1) is;
    }
