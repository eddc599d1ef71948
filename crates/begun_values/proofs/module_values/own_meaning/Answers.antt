-- The type, or the value, that is assigned.
use Rattle.std.proofs.Common.{ap}
use Rattle.asn1_names.specs.TermViews.{assigned_term, assignment_term, type_term, value_number}
use Rattle.asn1_values_syntax.specs.ValueTrees.{value_tree}
use Rattle.begun_values.proofs.ModuleLaws.{means_type, means_value}
use Rattle.begun_values.proofs.module_values.own_meaning.Goals as goal

pub returns-in-OfType : goal.returns-in-OfType
returns-in-OfType c = λ ms m is.
    means_type ms c.args.number m (assignment_term c.args.assignment.now) (type_term c.in-OfType.field-0) is
    (ap assigned_term c.in-OfType.is)

pub returns-in-OfValue : goal.returns-in-OfValue
returns-in-OfValue c = λ ms m is.
    means_value ms c.args.number m (assignment_term c.args.assignment.now) (type_term c.in-OfValue.of)
    (value_number c.in-OfValue.value) (value_tree c.in-OfValue.value) is (ap assigned_term c.in-OfValue.is)
