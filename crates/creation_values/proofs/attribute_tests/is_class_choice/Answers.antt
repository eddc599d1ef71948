-- The label is another one.
use Rattle.std.proofs.Common.{rules, ◌≡◌, ◌∙◌, codes, false}
use Rattle.term_values.specs.CmipTypes.{object_class}
use Rattle.term_model.specs.Comparing.{is_same_octets}
use Rattle.creation_values.proofs.AttributeLaws.{other_label}
use Rattle.creation_values.proofs.attribute_tests.is_class_choice.Goals as goal

pub returns-else-eq : goal.returns-else-eq
returns-else-eq c =
    let other : is_same_octets c.in-Some.template.now.label (codes "objectClass") ≡ false = search rules in
    c.if-eq.false
    ∙ other_label c.args.schema.now.attributes (codes "objectClass") object_class c.args.id.now c.in-Some.template.now
    c.in-Some.ensures other
