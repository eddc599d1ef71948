-- What is noted last is the first fault, and where nothing is noted nothing is wrong.
use Rattle.closing_laws.proofs.FaultLaws.{first_told, none_told}
use Rattle.class_closure.proofs.closing.tell_fault.Goals as goal

pub returns-in-Some-clause-cause : goal.returns-in-Some-clause-cause
returns-in-Some-clause-cause c = λ ms linked texts classes. c.refusal_of.ensures ms linked
    (first_told ms linked c.note_texts.new.self.first (record {
      classes = c.args.faults.now.first;
      of_classes = classes;
      texts = c.args.bad.now.first;
      are_texts = texts;
      of_texts = c.note_texts.ensures;
    }) c.in-Some.fault c.in-Some.is)

pub returns-in-None-clause-faultless : goal.returns-in-None-clause-faultless
returns-in-None-clause-faultless c = λ ms linked texts classes.
    none_told ms linked c.note_texts.new.self.first (record {
      classes = c.args.faults.now.first;
      of_classes = classes;
      texts = c.args.bad.now.first;
      are_texts = texts;
      of_texts = c.note_texts.ensures;
    }) c.in-None.is
