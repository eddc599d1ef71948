-- The alternatives of a CHOICE.
use Rattle.std.proofs.Common.{◌∙◌, ap, map, sym}
use Rattle.asn1_names.specs.TermViews.{type_term}
use Rattle.asn1_types.proofs.BuildingLaws.{alternatives_are}
use Rattle.asn1_types.specs.BuiltSyntaxes.{alternative_member}
use Rattle.asn1_types.specs.MeasuredTypes.{members_listed}
use Rattle.type_numbers.specs.PlacedTerms.{members_of, nth_member}
use Rattle.type_numbers.proofs.type_texts.member_of.Goals as goal

pub returns-in-Choice : goal.returns-in-Choice
returns-in-Choice c =
    let arm = c.in-Choice in
    c.alternative_text.ensures ∙ (ap (λ xs. nth_member (members_listed (map alternative_member xs)) c.args.place)
    c.as_slice.ensures.value ∙ sym (ap (λ t. nth_member (members_of t) c.args.place)
    (ap type_term arm.is ∙ alternatives_are arm.word arm.alternatives arm.constraints)))
