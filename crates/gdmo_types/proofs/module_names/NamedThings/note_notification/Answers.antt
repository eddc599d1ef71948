-- The types of its information and of its reply.
use Rattle.std.proofs.Common.{refl}
use Rattle.asn1_names.specs.TermViews.{module_terms}
use Rattle.gdmo_names.specs.MemberViews.{information_type, notification_term}
use Rattle.gdmo_names.specs.PartTerms.{body_of}
use Rattle.gdmo_names.specs.TypeMeaning.{name_list}
use Rattle.gdmo_types.specs.QualifiedFaults.{TypeNameFaults}
use Rattle.gdmo_types.proofs.QualifiedLaws.{both_names, types_alone}
use Rattle.gdmo_types.proofs.module_names.NamedThings.note_notification.Goals as goal

pub returns : goal.returns
returns c = λ are.
    let ms = module_terms c.args.self.now.types.now in
    types_alone ms c.args.document (body_of (notification_term c.args.notification.now)) refl
    (both_names (TypeNameFaults ms c.args.document)
    (name_list (information_type c.args.notification.now.information))
    (name_list c.args.notification.now.reply) (c.note_information.ensures are) (c.note_stated_type.ensures are))
