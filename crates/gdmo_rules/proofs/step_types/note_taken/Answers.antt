-- ARGUMENT, and any other value.
use Rattle.std.proofs.Common.{sym}
use Rattle.std.proofs.Math.Path.{subst}
use Rattle.gdmo_names.specs.FaultSets.{Notes, OneFault}
use Rattle.gdmo_names.specs.FirstLabelFault.LabelFault.{KindWrong}
use Rattle.gdmo_names.specs.RuleWords.{information_of}
use Rattle.gdmo_types.proofs.FieldLaws.{on_ok_by}
use Rattle.gdmo_rules.specs.StepFaults.{IsOfOther, TakenFaults}
use Rattle.gdmo_rules.specs.TakenViews.{taken_view}
use Rattle.gdmo_rules.proofs.step_types.note_taken.Goals as goal

pub returns-in-Argument-clause-noted : goal.returns-in-Argument-clause-noted
returns-in-Argument-clause-noted c = on_ok_by c.note_type.result (λ noted parts rule x is are known at kind.
    let before = c.args.faults.now.first in
    let after = c.note_type.new.faults.first in
    let told = c.information_type.ensures parts c.args.numbers.now.lists rule known.types in
    subst (λ t. Notes (TakenFaults parts rule x (taken_view t)) before after) (sym c.in-Argument.is)
    (subst (λ d. Notes (OneFault (IsOfOther parts rule x information_of) KindWrong d c.in-Argument.word.now.at) before
    after) known.is_in (noted parts rule x information_of is are at kind told))) c.note_type.ensures.noted
