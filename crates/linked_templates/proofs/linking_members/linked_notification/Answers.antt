-- The type of the information, the fields, and the type of the reply.
use Rattle.std.proofs.Math.Path.{subst}
use Rattle.gdmo_names.specs.FoundViews.{body_term}
use Rattle.gdmo_names.specs.MemberViews.{information_type}
use Rattle.gdmo_names.specs.TypeMeaning.{name_list, type_names}
use Rattle.std.proofs.Common.{sym}
use Rattle.gdmo_linking.specs.Linkers.{IsNamed, LinksMention}
use Rattle.gdmo_names.specs.InStep.{AreAll, AreEach}
use Rattle.gdmo_names.specs.MemberViews.{information_fields}
use Rattle.gdmo_names.specs.Mentions.{field_mentions}
use Rattle.linked_templates.proofs.MemberLaws.{notification_linked, notification_named}
use Rattle.gdmo_linking.proofs.StepLaws.{all_left, all_right}
use Rattle.linked_templates.proofs.linking_members.linked_notification.Goals as goal

pub returns-clause-is : goal.returns-clause-is
returns-clause-is c = λ parts is body.
    let t = c.args.notification.now in
    let document = c.args.found.now.document in
    let own = body_term c.args.found.now.body in
    let types = subst (λ b. AreAll (IsNamed parts) (type_names b)) body is.types in
    let told = name_list (information_type t.information) in
    let answered = name_list t.reply in
    notification_linked parts document own t _ body
    (c.in_ok-information.ensures parts is.knows (all_left (IsNamed parts) told answered types))
    (c.in_ok-fields.ensures parts document
    (subst (λ ks. AreEach (LinksMention parts document) (field_mentions (information_fields t.information)) ks)
    (sym c.as_slice-places.ensures.value)
    (notification_named parts document own t c.in_ok-attributes.attributes.items body
    (c.in_ok-attributes.ensures parts is))))
    (c.in_ok-reply.ensures parts is.knows (all_right (IsNamed parts) told answered types))
