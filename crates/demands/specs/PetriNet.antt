-- Request #106: "Build the places and transitions of document 001, section 3.2, from a sheet and plan, with places for the stop line of #102, and fire
-- transitions until none can fire. Its verdict equals the judge's for every valid sheet and readable plan, and on a locked plan the marking left tells
-- the same position for each cart. Write the net as text, one place, transition or arc a line, in order of cart, then step, then the other cart. ..
-- two different nets never have the same text."
use Rattle.std.specs.Prelude.{ℕ, ◌≤◌, ◌≡◌, ◌↔◌, ◌≢◌, List, length, take}
use Rattle.moves.specs.System.{pos}
use Rattle.sheet.specs.Reading.{sheet_of}
use Rattle.judge.specs.Judging.{judge}
use Rattle.net_text.specs.Lines.{Line, text_of, net_text}
use Rattle.net_text.specs.Parts.{Part, IsPart, LinesOf}
use Rattle.net.specs.declared.NetRun.{NetRun}
use Rattle.demands.specs.DemandTwo.{Readable, planned}
use Rattle.demands.specs.DemandThree.{rule, stuck}

module _ (s p : List ℕ) where
  -- of an answer that is done
  pub record NetBeside (r : NetRun) : Type 0 where
    -- "Its verdict equals the judge's": 1 where judging gives 22, however many words are lent to it, and else 0
    pub locked : (words : ℕ) → (r.locked ≡ 1) ↔ ((judge s p words).outcome.number ≡ 22)
    pub free : (words : ℕ) → (r.locked ≡ 0) ↔ ((judge s p words).outcome.number ≢ 22)
    -- "the marking left tells the same position for each cart": of every plan, where the judge's moves end
    pub same_positions : r.position ≡ stuck s p
    -- so under a plan that is not locked all carts are out, and absent ones stand at 0
    pub all_out : r.locked ≡ 0 → r.position ≡ (rule s p).out
    pub absent : (c : ℕ) → (sheet_of s).carts ≤ c → pos r.position c ≡ 0

  pub record NetText (room : List ℕ) (r : NetRun) (after : List ℕ) : Type 0 where
    -- every readable plan is answered, once there is room for the text of its net
    pub answers : (r.outcome.number ≡ 0) ↔ (Readable s p × (length (net_text (planned s p)) ≤ length room))
    -- "Write the net as text": the room begins with lines, and they are the net's, a line for each part and no other, none twice, in order
    pub written : r.outcome.number ≡ 0 → (lines : List Line) × (take r.length after ≡ text_of lines) × LinesOf (planned s p) lines
    -- "two different nets never have the same text": a readable plan with this text has these parts
    pub no_second_net : r.outcome.number ≡ 0 → (s' p' : List ℕ) → Readable s' p' → take r.length after ≡ net_text (planned s' p')
        → (part : Part) → IsPart (planned s p) part ↔ IsPart (planned s' p') part
