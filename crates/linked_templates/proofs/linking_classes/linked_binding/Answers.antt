-- What is named in each role.
use Rattle.std.proofs.Common.{rules}
use Rattle.gdmo_names.specs.ClassViews.{binding_term, class_reference, creation_term, deletion_term}
use Rattle.std.specs.Prelude.{is_some}
use Rattle.gdmo_names.specs.FoundViews.{body_term}
use Rattle.gdmo_names.specs.MemberViews.{attribute_reference, behaviour_terms}
use Rattle.gdmo_names.specs.Mentions.{mention}
use Rattle.gdmo_names.specs.Mentions.Role.{NamingAttribute, SubordinateClass, SuperiorClass}
use Rattle.gdmo_names.specs.PartTerms.{body_of}
use Rattle.linked_templates.proofs.BodyLaws.{binding_above, binding_attribute, binding_below}
use Rattle.linked_templates.proofs.MemberLaws.{binding_linked, once_in_body}
use Rattle.linked_templates.proofs.linking_classes.linked_binding.Goals as goal

pub returns-clause-is : goal.returns-clause-is
returns-clause-is c = λ parts is body.
    let t = c.args.binding.now in
    let own = body_term c.args.found.now.body in
    let below = class_reference t.subordinate.class in
    let above = class_reference t.superior.class in
    let by = attribute_reference t.attribute in
    let b = behaviour_terms t.behaviour in
    let made = creation_term t.create in
    let gone = deletion_term t.delete in
    let below_all = is_some t.subordinate.subclasses in
    let above_all = is_some t.superior.subclasses in
    binding_linked parts c.args.found.now.document own t _ body
    (c.in_ok-subordinate.ensures parts (mention SubordinateClass below) is
    (once_in_body SubordinateClass own (body_of (binding_term t)) (mention SubordinateClass below) body
    (binding_below below below_all above above_all by b made gone)))
    (search rules)
    (c.in_ok-superior.ensures parts (mention SuperiorClass above) is
    (once_in_body SuperiorClass own (body_of (binding_term t)) (mention SuperiorClass above) body
    (binding_above below below_all above above_all by b made gone)))
    (search rules)
    (c.in_ok-attribute.ensures parts (mention NamingAttribute by) is
    (once_in_body NamingAttribute own (body_of (binding_term t)) (mention NamingAttribute by) body
    (binding_attribute below below_all above above_all by b made gone)))
    c.in_ok-create.ensures c.in_ok-delete.ensures
