use Rattle.template_compile.specs.DocumentFaults.IsLabelFault.{unknown_label, wrong_kind, double_label}
use Rattle.template_compile.specs.DocumentFaults.IsLabelFault.{double_identifier}
use Rattle.template_compile.proofs.FaultLaws.{label_told}
use Rattle.template_compile.proofs.fault_lines.refusal_of_labels.Goals as goal

pub returns-in-UnknownLabel : goal.returns-in-UnknownLabel
returns-in-UnknownLabel c = λ parts.
    label_told c.args.documents.now parts c.in-UnknownLabel.document c.in-UnknownLabel.token c.in-UnknownLabel.is
    unknown_label c.fault_at.ensures

pub returns-in-WrongKind : goal.returns-in-WrongKind
returns-in-WrongKind c = λ parts.
    label_told c.args.documents.now parts c.in-WrongKind.document c.in-WrongKind.token c.in-WrongKind.is wrong_kind
    c.fault_at-in-WrongKind.ensures

pub returns-in-DoubleLabel : goal.returns-in-DoubleLabel
returns-in-DoubleLabel c = λ parts.
    label_told c.args.documents.now parts c.in-DoubleLabel.document c.in-DoubleLabel.token c.in-DoubleLabel.is
    double_label c.fault_at-in-DoubleLabel.ensures

pub returns-in-DoubleIdentifier : goal.returns-in-DoubleIdentifier
returns-in-DoubleIdentifier c = λ parts.
    label_told c.args.documents.now parts c.in-DoubleIdentifier.document c.in-DoubleIdentifier.token
    c.in-DoubleIdentifier.is double_identifier c.fault_at-in-DoubleIdentifier.ensures
