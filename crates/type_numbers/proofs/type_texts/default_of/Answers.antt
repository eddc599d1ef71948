-- At an alternative no DEFAULT stands.
use Rattle.std.proofs.Common.{◌∙◌, ap, sym}
use Rattle.asn1_names.specs.TermViews.{type_term}
use Rattle.type_numbers.specs.PlacedTerms.{are_components, members_of, nth_default}
use Rattle.type_numbers.proofs.MemberTextLaws.{no_default}
use Rattle.type_numbers.proofs.type_texts.default_of.Goals as goal

pub returns-in-Choice : goal.returns-in-Choice
returns-in-Choice c =
    sym (ap (λ of. nth_default (are_components (type_term of)) (members_of (type_term of)) c.args.place)
    c.in-Choice.is ∙ no_default _ c.args.place)
