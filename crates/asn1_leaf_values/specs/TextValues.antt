-- TextValues: what the text of a value says, apart from where it stands (X.680, section 17.7; X.208, sections 17 to
-- 28). Which value it denotes only a type tells.
use Rattle.std.specs.Prelude.{ℕ, Bool, List, [], ◌∷◌, map, Option, None, Some, is_some}
use Rattle.token_grammar.specs.declared.object_identifier.Arc.{Arc}
use Rattle.token_grammar.specs.declared.object_identifier.Arc.TheVariants.{Number as ArcNumber, Named as ArcNamed}
use Rattle.token_grammar.specs.declared.token.Token.{Token}
use Rattle.asn1_values_syntax.specs.declared.arcs.SureArcs.{SureArcs}
use Rattle.asn1_values_syntax.specs.declared.arcs.SureArcs.TheVariants.{Number as FirstNumber, Named as FirstNamed}
use Rattle.asn1_values_syntax.specs.declared.value.ValueText.{ValueText}
use Rattle.asn1_values_syntax.specs.declared.value.ValueText.TheVariants.{Literal as TLiteral, Number as TNumber}
use Rattle.asn1_values_syntax.specs.declared.value.ValueText.TheVariants.{Named as TNamed, Braces as TBraces}
use Rattle.asn1_values_syntax.specs.declared.value.NamedValue.{NamedValue}
use Rattle.asn1_values_syntax.specs.declared.value.NamedValue.TheVariants.{Name as NName, Choice'}
use Rattle.asn1_values_syntax.specs.declared.value.BracesText.{BracesText}
use Rattle.asn1_values_syntax.specs.declared.value.BracesText.TheVariants.{Nothing, Parts', Arcs as BArcs, NamedArcs}
use Rattle.asn1_values_syntax.specs.declared.value.ValuePart.{ValuePart}
use Rattle.asn1_values_syntax.specs.declared.value.ValuePart.TheVariants.{Named as PNamed, Unnamed}
use Rattle.asn1_values_syntax.specs.declared.value.BracesText.{Row_of-ValuePart, end_of-ValuePart, more_of-ValuePart}

mutual
  pub data TextValue : Type 0 where
    -- TRUE, FALSE, NULL, a string, or octets or bits in digits
    Literal : Token → TextValue
    -- whether a minus stands before a number, and its digits
    Number : Bool → List ℕ → TextValue
    Name : List ℕ → TextValue
    -- `name : value`
    Chosen : List ℕ → TextValue → TextValue
    -- parts in braces, or none
    InBraces : TextParts → TextValue
    -- arcs in braces that can't be parts: the first name, where it has no number, and the digits of the numbers
    InArcs : Option (List ℕ) → List (List ℕ) → TextValue

  -- parts in braces: a name, empty where the part has none, and a value
  pub data TextParts : Type 0 where
    NoTexts : TextParts
    AndText : List ℕ → TextValue → TextParts → TextParts

-- the digits of an arc
abbrev pub arc_digits : Arc → List ℕ
arc_digits (ArcNumber number) = number.text
arc_digits (ArcNamed name number) = number.text

abbrev pub arcs_digits : SureArcs → List (List ℕ)
arcs_digits (FirstNumber first second others) = first.text ∷ (arc_digits second ∷ map arc_digits others.items)
arcs_digits (FirstNamed first others) = first.number.text ∷ map arc_digits others.items

-- the name of a part, empty where it has none
abbrev pub said_name : ValuePart → List ℕ
said_name (PNamed name value) = name.text
said_name (Unnamed value) = []

abbrev mutual
  pub said : ValueText → TextValue
  said (TLiteral literal) = Literal literal
  said (TNumber number) = Number (is_some number.minus) number.number.text
  said (TNamed value) = named_said value
  said (TBraces brace content) = content_said content

  pub named_said : NamedValue → TextValue
  named_said (NName name) = Name name.text
  named_said (Choice' name place value) = Chosen name.text (said value)

  pub content_said : BracesText → TextValue
  content_said Nothing = InBraces NoTexts
  content_said (Parts' shape row) = InBraces (row_said row)
  content_said (BArcs arcs) = InArcs None (arcs_digits arcs.value)
  content_said (NamedArcs first others) = InArcs (Some first.text) (arcs_digits others.value)

  pub said_value : ValuePart → TextValue
  said_value (PNamed name value) = said value
  said_value (Unnamed value) = said value

  pub row_said : {n : _} → Row_of-ValuePart n → TextParts
  row_said end_of-ValuePart = NoTexts
  row_said (more_of-ValuePart part others) = AndText (said_name part) (said_value part) (row_said others)

-- the parts of a list
abbrev pub parts_said : List ValuePart → TextParts
parts_said [] = NoTexts
parts_said (part ∷ others) = AndText (said_name part) (said_value part) (parts_said others)

-- the parts that stand in braces
abbrev pub parts_of : TextValue → Option TextParts
parts_of (InBraces parts) = Some parts
parts_of _ = None

-- the place in the document of the first token of a text
abbrev pub named_place : NamedValue → ℕ
named_place (NName name) = name.at
named_place (Choice' name place value) = name.at

abbrev pub sign_place : Option Token → Token → ℕ
sign_place None number = number.at
sign_place (Some minus) number = minus.at

abbrev pub first_place : ValueText → ℕ
first_place (TLiteral literal) = literal.at
first_place (TNumber number) = sign_place number.minus number.number
first_place (TNamed value) = named_place value
first_place (TBraces brace content) = brace.at
