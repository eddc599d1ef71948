-- The types of its information and of its reply.
use Rattle.std.proofs.Common.{refl}
use Rattle.asn1_names.specs.TermViews.{module_terms}
use Rattle.gdmo_names.specs.MemberViews.{action_term}
use Rattle.gdmo_names.specs.PartTerms.{body_of}
use Rattle.gdmo_names.specs.TypeMeaning.{name_list}
use Rattle.gdmo_types.specs.QualifiedFaults.{TypeNameFaults}
use Rattle.gdmo_types.proofs.QualifiedLaws.{both_names, types_alone}
use Rattle.gdmo_types.proofs.module_names.NamedThings.note_action.Goals as goal

pub returns : goal.returns
returns c = λ are.
    let ms = module_terms c.args.self.now.types.now in
    types_alone ms c.args.document (body_of (action_term c.args.action.now)) refl
    (both_names (TypeNameFaults ms c.args.document) (name_list c.args.action.now.information)
    (name_list c.args.action.now.reply) (c.note_stated_type.ensures are) (c.note_stated_type-2.ensures are))
