-- The word is an attribute's label, or it isn't.
use Rattle.std.proofs.Math.Path.{subst}
use Rattle.gdmo_names.specs.FaultSets.{Notes, OneFault}
use Rattle.gdmo_names.specs.FirstLabelFault.LabelFault.{KindWrong}
use Rattle.gdmo_names.specs.RuleWords.{reply_of}
use Rattle.gdmo_types.proofs.FieldLaws.{on_ok_by}
use Rattle.gdmo_rules.specs.AttributeLabels.{TellsAttribute}
use Rattle.gdmo_rules.specs.StepFaults.{IsOfOther}
use Rattle.gdmo_rules.proofs.StepTypeLaws.{attribute_word_noted, word_none, word_some}
use Rattle.gdmo_rules.proofs.step_types.judge_word.Goals as goal

pub returns-in-Some-clause-noted : goal.returns-in-Some-clause-noted
returns-in-Some-clause-noted c = on_ok_by c.note_type.result (λ noted parts rule is are known.
    let word = c.args.word.now in
    let label = word_some (subst (TellsAttribute parts c.args.linkage.now.templates.now word) c.in-Some.is
    (c.labelled_attribute.ensures parts is.are_found.all is.are_labels)) in
    let told = c.reply_type.ensures parts c.args.numbers.now.lists rule known.types in
    attribute_word_noted parts rule word label.0
    (subst (λ d. Notes (OneFault (IsOfOther parts rule label.0.attribute reply_of) KindWrong d word.at)
    c.args.faults.now.first c.note_type.new.faults.first) known.is_in
    (noted parts rule label.0.attribute reply_of is are label.1 label.0.of_kind told))) c.note_type.ensures.noted

pub returns-in-None-clause-noted : goal.returns-in-None-clause-noted
returns-in-None-clause-noted c = on_ok_by c.judge_other_word.result (λ noted parts rule is are known.
    noted parts rule is are known (word_none (subst (TellsAttribute parts c.args.linkage.now.templates.now
    c.args.word.now) c.in-None.is (c.labelled_attribute.ensures parts is.are_found.all is.are_labels))))
    c.judge_other_word.ensures.noted
