use Rattle.value_match.proofs.SetLaws.{either_there}
use Rattle.value_match.proofs.set_marks.least_of_both.Goals as goal

pub returns-clause-there : goal.returns-clause-there
returns-clause-there c =
    either_there c.args.items.now c.args.slots.now c.args.others.now c.args.from c.least_mark.result
    c.least_mark-2.result c.lesser.result c.least_mark.ensures.there c.least_mark-2.ensures.there c.lesser.ensures.one
