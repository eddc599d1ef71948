-- The fields, where they are stated.
use Rattle.std.proofs.Common.{◌≡◌, ◌∙◌, ap, sym}
use Rattle.std.proofs.Math.Path.{subst}
use Rattle.linked_templates.specs.LinkedMembers.{AreFields}
use Rattle.gdmo_linking.specs.Linkers.{LinksMention}
use Rattle.linked_templates.specs.MemberTexts.{IsFieldText, LinksField}
use Rattle.linked_templates.proofs.TextLaws.{are_fields, field_links}
use Rattle.gdmo_names.specs.InStep.{AreEach}
use Rattle.gdmo_names.specs.MemberViews.{field_terms, fields_of, information_fields}
use Rattle.gdmo_names.specs.Mentions.{field_mentions}
use Rattle.linked_templates.proofs.linking_members.information_fields.Goals as goal

pub returns-in_ok-linked_fields-in-Some-fields : goal.returns-in_ok-linked_fields-in-Some-fields
returns-in_ok-linked_fields-in-Some-fields c = λ parts document each.
    let own = c.in-Some-fields.fields.items in
    let linked = c.in_ok-linked_fields-in-Some-fields.field-0.items in
    let attributes = c.args.attributes.now in
    let view : information_fields c.args.information.now ≡ field_terms own =
    ap information_fields c.in-Some.is ∙ ap fields_of c.in-Some-fields.is in
    subst (λ fs. AreFields parts document fs linked) (sym view)
    (are_fields parts document own linked
    (subst (λ xs. AreEach (IsFieldText parts document) xs linked) c.as_slice-own.ensures.value
    (c.in_ok-linked_fields-in-Some-fields.ensures parts document
    (subst (λ xs. AreEach (LinksField parts document) xs attributes) (sym c.as_slice-own.ensures.value)
    (field_links parts document own attributes
    (subst (λ fs. AreEach (LinksMention parts document) (field_mentions fs) attributes) view each))))))
