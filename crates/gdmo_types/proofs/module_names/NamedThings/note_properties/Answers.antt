-- Each of the four properties.
use Rattle.asn1_names.specs.TermViews.{module_terms}
use Rattle.gdmo_names.specs.ClassViews.{stated_term}
use Rattle.gdmo_names.specs.FaultSets.{AnyOf, Either}
use Rattle.gdmo_names.specs.TypeMeaning.{name_list, stated_values}
use Rattle.gdmo_names.proofs.NotingLaws.{both_noted}
use Rattle.gdmo_types.specs.QualifiedFaults.{TypeNameFaults, ValueNameFaults}
use Rattle.gdmo_types.proofs.module_names.NamedThings.note_properties.Goals as goal

pub returns : goal.returns
returns c = λ are.
    let ms = module_terms c.args.self.now.types.now in
    let x = c.args.properties.now in
    let first = AnyOf (ValueNameFaults ms c.args.document) (stated_values (stated_term x.default_value)) in
    let second = AnyOf (ValueNameFaults ms c.args.document) (stated_values (stated_term x.initial_value)) in
    let third = AnyOf (TypeNameFaults ms c.args.document) (name_list x.permitted_values) in
    let last = AnyOf (TypeNameFaults ms c.args.document) (name_list x.required_values) in
    both_noted (Either (Either first second) third) last (both_noted (Either first second) third
    (both_noted first second (c.note_stated_value.ensures are) (c.note_stated_value-2.ensures are))
    (c.note_stated_type.ensures are)) (c.note_stated_type-2.ensures are)
