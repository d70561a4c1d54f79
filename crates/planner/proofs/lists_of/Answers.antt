-- A table that stands for passable orders is listed, and the carts settle over it.
use Rattle.judge.proofs.Words.{sheet_leavable}
use Rattle.planner.proofs.Listed.{listed_placeable, listed_sound, lists_told}
use Rattle.planner.proofs.lists_of.Goals as goal

pub verdict_of-requires : goal.verdict_of-requires
verdict_of-requires c = let l = c.requires.listable in listed_sound _ l.valid _ l.passable l.stands

pub passing_lists-requires : goal.passing_lists-requires
passing_lists-requires c = let l = c.requires.listable in listed_placeable _ l.valid _ l.passable l.stands c.requires.visitors_are

pub finish_of-requires : goal.finish_of-requires
finish_of-requires c = let l = c.requires.listable in sheet_leavable _ l.valid _ c.verdict_of.ensures.settled.enter_most

pub returns : goal.returns
returns c = λ n m X l.
    lists_told _ l.valid X l.passable l.stands c.verdict_of.ensures.settled c.requires.visitors_are c.passing_lists.ensures c.finish_of.ensures
