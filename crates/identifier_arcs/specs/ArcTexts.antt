-- ArcTexts: what the texts that the code has of object identifiers say (X.680, section 32).
use Rattle.std.specs.Prelude.{◌∷◌, [], List, Option, None, map, option_map}
use Rattle.std.specs.Borrow.{Bor}
use Rattle.token_grammar.specs.declared.token.Token.{Token}
use Rattle.asn1_values_syntax.specs.declared.arcs.SureArcs.{SureArcs}
use Rattle.asn1_values_syntax.specs.declared.arcs.SureArcs.TheVariants.{Number as SureNumber, Named as SureNamed}
use Rattle.asn1_values_syntax.specs.declared.value.ValuePart.{ValuePart}
use Rattle.gdmo_names.specs.ArcViews.{part_arcs}
use Rattle.gdmo_names.specs.MemberViews.{arc_number}
use Rattle.gdmo_names.specs.TemplateTerms.{FirstTerm, IdentifierTerm}
use Rattle.gdmo_names.specs.TemplateTerms.FirstTerm.{ArcNumber, ArcName}
use Rattle.identifier_arcs.specs.declared.arc_texts.FirstText.{FirstText}
use Rattle.identifier_arcs.specs.declared.arc_texts.FirstText.TheVariants.{Number, Name}
use Rattle.identifier_arcs.specs.declared.arc_texts.IdentifierText.{IdentifierText}

abbrev pub tokens_said : List (Bor Token) → List Token
tokens_said tokens = map (λ x. x.now) tokens

abbrev pub first_said : FirstText → FirstTerm
first_said (Number token) = ArcNumber token.now
first_said (Name token) = ArcName token.now

abbrev pub text_term : IdentifierText → IdentifierTerm
text_term x = record { brace = x.brace.now; first = first_said x.first; others = tokens_said x.others.items }

abbrev pub maybe_said : Option IdentifierText → Option IdentifierTerm
maybe_said x = option_map text_term x

-- the first of arcs that have numbers, and those behind it
abbrev pub sure_first : SureArcs → Token
sure_first (SureNumber first second others) = first
sure_first (SureNamed first others) = first.number

abbrev pub sure_rest : SureArcs → List Token
sure_rest (SureNumber first second others) = arc_number second ∷ map arc_number others.items
sure_rest (SureNamed first others) = map arc_number others.items

-- parts in braces
abbrev pub list_arcs : Token → List ValuePart → Option IdentifierTerm
list_arcs brace [] = None
list_arcs brace (part ∷ []) = part_arcs brace part
list_arcs brace (part ∷ other ∷ others) = None
