use Rattle.lines.proofs.ShowLemmas as show
use Rattle.lines.proofs.laws.traces_are_determined.Goals as goal

pub returns-clause-one_line : goal.returns-clause-one_line
returns-clause-one_line c =
    let compound = c.compound_is_determined.ensures in
    let spelling = c.spelling_is_determined.ensures in
    show.one_line compound.one_list compound.one_fault compound.not_both spelling.one spelling.refused c.repair_is_determined.ensures.long

pub returns-clause-one_text : goal.returns-clause-one_text
returns-clause-one_text c =
    let compound = c.compound_is_determined.ensures in
    let spelling = c.spelling_is_determined.ensures in
    show.one_text compound.one_list compound.one_fault compound.not_both spelling.one spelling.refused c.repair_is_determined.ensures.long

pub returns-clause-both : goal.returns-clause-both
returns-clause-both c = show.both_texts
