use Rattle.template_compile.specs.DocumentFaults.IsClassFault.{bad_value, cyclic_class, empty_permitted}
use Rattle.template_compile.specs.DocumentFaults.IsClassFault.{not_set_valued, unequal_default}
use Rattle.template_compile.proofs.FaultLaws.{class_told}
use Rattle.template_compile.proofs.fault_lines.refusal_of_classes.Goals as goal

pub returns-in-CyclicClass : goal.returns-in-CyclicClass
returns-in-CyclicClass c = λ parts linked.
    class_told c.args.documents.now parts linked c.in-CyclicClass.document c.in-CyclicClass.token c.in-CyclicClass.is
    cyclic_class
    c.fault_at.ensures

pub returns-in-UnequalDefault : goal.returns-in-UnequalDefault
returns-in-UnequalDefault c = λ parts linked.
    class_told c.args.documents.now parts linked c.in-UnequalDefault.document c.in-UnequalDefault.token
    c.in-UnequalDefault.is unequal_default
    c.fault_at-in-UnequalDefault.ensures

pub returns-in-EmptyPermitted : goal.returns-in-EmptyPermitted
returns-in-EmptyPermitted c = λ parts linked.
    class_told c.args.documents.now parts linked c.in-EmptyPermitted.document c.in-EmptyPermitted.token
    c.in-EmptyPermitted.is empty_permitted
    c.fault_at-in-EmptyPermitted.ensures

pub returns-in-NotSetValued : goal.returns-in-NotSetValued
returns-in-NotSetValued c = λ parts linked.
    class_told c.args.documents.now parts linked c.in-NotSetValued.document c.in-NotSetValued.token
    c.in-NotSetValued.is not_set_valued
    c.fault_at-in-NotSetValued.ensures

pub returns-in-BadValue : goal.returns-in-BadValue
returns-in-BadValue c = λ parts linked.
    class_told c.args.documents.now parts linked c.in-BadValue.document c.in-BadValue.token c.in-BadValue.is bad_value
    c.fault_at-in-BadValue.ensures
