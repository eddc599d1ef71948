-- ArcViews: values in braces that can be read as object identifiers, `{number ..}`, `{name(number) ..}`, `{name}` and
-- `{name number ..}`, with what they say then (X.680, section 32; docs/PROFILE.md, section 8).
use Rattle.std.specs.Prelude.{List, [], ◌∷◌, Option, None, Some, map}
use Rattle.std.specs.Prelude.{is_none, if◌then◌else◌}
use Rattle.token_grammar.specs.declared.token.Token.{Token}
use Rattle.asn1_values_syntax.specs.declared.arcs.SureArcs.{SureArcs}
use Rattle.asn1_values_syntax.specs.declared.arcs.SureArcs.TheVariants.{Number as SureNumber, Named as SureNamed}
use Rattle.asn1_values_syntax.specs.declared.numbers.SignedNumber.{SignedNumber}
use Rattle.asn1_values_syntax.specs.declared.value.BracesText.{BracesText, Row_of-ValuePart, end_of-ValuePart}
use Rattle.asn1_values_syntax.specs.declared.value.BracesText.{more_of-ValuePart}
use Rattle.asn1_values_syntax.specs.declared.value.BracesText.TheVariants.{Nothing, Parts', Arcs, NamedArcs}
use Rattle.asn1_values_syntax.specs.declared.value.NamedValue.TheVariants.{Name}
use Rattle.asn1_values_syntax.specs.declared.value.ValuePart.{ValuePart}
use Rattle.asn1_values_syntax.specs.declared.value.ValuePart.TheVariants.{Named as NamedPart, Unnamed}
use Rattle.asn1_values_syntax.specs.declared.value.ValueText.{ValueText}
use Rattle.asn1_values_syntax.specs.declared.value.ValueText.TheVariants.{Number, Named as NamedText, Braces}
use Rattle.gdmo_names.specs.MemberViews.{arc_number}
use Rattle.gdmo_names.specs.TemplateTerms.{IdentifierTerm}
use Rattle.gdmo_names.specs.TemplateTerms.FirstTerm.{ArcNumber, ArcName}

abbrev pub sure_numbers : SureArcs → List Token
sure_numbers (SureNumber first second others) = first ∷ arc_number second ∷ map arc_number others.items
sure_numbers (SureNamed first others) = first.number ∷ map arc_number others.items

abbrev pub of_numbers : Token → List Token → Option IdentifierTerm
of_numbers brace [] = None
of_numbers brace (x ∷ xs) = Some (record { brace = brace; first = ArcNumber x; others = xs })

abbrev pub of_name : Token → Token → List Token → Option IdentifierTerm
of_name brace name others = Some (record { brace = brace; first = ArcName name; others = others })

abbrev pub one_number : Token → SignedNumber → Option IdentifierTerm
one_number brace x = if is_none x.minus then of_numbers brace (x.number ∷ []) else None

abbrev pub name_and_number : Token → Token → SignedNumber → Option IdentifierTerm
name_and_number brace name x = if is_none x.minus then of_name brace name (x.number ∷ []) else None

abbrev pub part_arcs : Token → ValuePart → Option IdentifierTerm
part_arcs brace (Unnamed (Number number)) = one_number brace number
part_arcs brace (Unnamed (NamedText (Name name))) = of_name brace name []
part_arcs brace (Unnamed _) = None
part_arcs brace (NamedPart name (Number number)) = name_and_number brace name number
part_arcs brace (NamedPart name _) = None

abbrev pub row_arcs : {n : _} → Token → Row_of-ValuePart n → Option IdentifierTerm
row_arcs brace end_of-ValuePart = None
row_arcs brace (more_of-ValuePart part end_of-ValuePart) = part_arcs brace part
row_arcs brace (more_of-ValuePart part (more_of-ValuePart other others)) = None

abbrev pub braces_arcs : Token → BracesText → Option IdentifierTerm
braces_arcs brace Nothing = None
braces_arcs brace (Parts' shape row) = row_arcs brace row
braces_arcs brace (Arcs arcs) = of_numbers brace (sure_numbers arcs.value)
braces_arcs brace (NamedArcs first others) = of_name brace first (sure_numbers others.value)

abbrev pub value_arcs : ValueText → Option IdentifierTerm
value_arcs (Braces brace content) = braces_arcs brace content
value_arcs _ = None
