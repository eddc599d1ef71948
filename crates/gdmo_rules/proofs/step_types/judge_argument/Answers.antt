-- There is an action, or none.
use Rattle.std.proofs.Math.Path.{subst}
use Rattle.gdmo_names.specs.FaultSets.{Notes, OneFault}
use Rattle.gdmo_names.specs.FirstLabelFault.LabelFault.{KindWrong}
use Rattle.gdmo_rules.specs.StepFaults.{RepliesOther, TellsRuleTypes}
use Rattle.gdmo_rules.proofs.StepTypeLaws.{argument_not, argument_noted}
use Rattle.gdmo_rules.proofs.step_types.judge_argument.Goals as goal

pub returns-in-Some : goal.returns-in-Some
returns-in-Some c = λ parts row rule once known.
    let told = subst (TellsRuleTypes parts row rule) c.in-Some.is known.types in
    subst (λ d. Notes (OneFault (RepliesOther parts rule) KindWrong d c.args.word.now.at) c.args.faults.now.first
    c.note_other_reply.new.faults.first) known.is_in
    (argument_noted parts rule told.0 c.args.known.document c.args.word.now.at told.1
    (c.note_other_reply.ensures parts row told.0 once told.2))

pub returns-in_default : goal.returns-in_default
returns-in_default c = λ parts row rule once known. argument_not parts rule rule.document c.args.word.now.at
    c.args.faults.now.first (subst (TellsRuleTypes parts row rule) c.in_default.is known.types)
