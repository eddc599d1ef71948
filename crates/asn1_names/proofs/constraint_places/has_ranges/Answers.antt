-- A type that holds no other.
use Rattle.std.proofs.Common.{◌≡◌, ◌∙◌, ap, sym}
use Rattle.asn1_syntax.specs.declared.type_text.TypeText.{TypeText}
use Rattle.asn1_names.specs.TermViews.{limit_terms, type_term}
use Rattle.asn1_names.specs.TypeBase.{has_ranges as ranges_have}
use Rattle.asn1_names.specs.TypeBase.Base.{Written}
use Rattle.asn1_names.proofs.constraint_places.has_ranges.Goals as goal

pub returns-in-Plain : goal.returns-in-Plain
returns-in-Plain c = λ m. c.plain_has_ranges.ensures m (limit_terms c.in-Plain.constraints) ∙
    sym (ap (λ (t : TypeText). ranges_have (Written m (type_term t))) c.in-Plain.is)
