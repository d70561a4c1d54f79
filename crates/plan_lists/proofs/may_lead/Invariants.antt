-- The loop keeps what is allowed on each lane, and what the carts passed have.
use mathlib.Core.Path.{◌≡◌}
use Rattle.sheet_table.specs.inner.Parts.{lane}
use Rattle.plan_lists.proofs.LeadLaws.{allowed_at, leads_at}
use Rattle.plan_lists.proofs.may_lead.Given as goal

abbrev pub invariant-loop-i : goal.invariant-loop-i
invariant-loop-i l = (l.allowed ≡ allowed_at (lane l.sheet) l.i) × (l.lead ≡ leads_at (lane l.sheet) l.i)
