-- The first of the texts is noted, and where there is none nothing is.
use Rattle.class_faults.proofs.NotingLaws.{first_noted, no_text}
use Rattle.class_faults.proofs.first_fault.Faults.note_texts.Goals as goal

pub returns-in-Some : goal.returns-in-Some
returns-in-Some c = first_noted c.args.bad.now.first c.in-Some.place c.in-Some.is c.add.ensures

pub returns-in-None : goal.returns-in-None
returns-in-None c = no_text c.args.bad.now.first c.args.self.now.first c.in-None.is
