-- ValueTerms: values that agree say one object identifier, where they can be read as one, and one number (X.680,
-- section 32; docs/PROFILE.md, section 8).
use Rattle.std.proofs.Common.{◌≡◌, [], ◌∷◌, Some, refl, ◌∙◌, ap, map}
use Rattle.token_grammar.specs.declared.token.Token.{Token}
use Rattle.asn1_values_syntax.specs.declared.arcs.SureArcs.TheVariants.{Number as SureNumber, Named as SureNamed}
use Rattle.asn1_values_syntax.specs.declared.value.BracesText.{Row_of-ValuePart, end_of-ValuePart}
use Rattle.asn1_values_syntax.specs.declared.value.BracesText.{more_of-ValuePart}
use Rattle.asn1_values_syntax.specs.declared.value.BracesText.TheVariants.{Nothing, Parts', Arcs, NamedArcs}
use Rattle.asn1_values_syntax.specs.declared.value.NamedValue.TheVariants.{Name, Choice'}
use Rattle.asn1_values_syntax.specs.declared.value.ValuePart.TheVariants.{Named as NamedPart, Unnamed}
use Rattle.asn1_values_syntax.specs.declared.value.ValueText.TheVariants.{Literal, Number, Named, Braces}
use Rattle.asn1_values_syntax.specs.Agreement.{ArcsAgree, ContentsAgree, PartsAgree, RowsAgree, ValuesAgree}
use Rattle.asn1_names.specs.TermViews.{signed_term, value_number}
use Rattle.asn1_names.specs.ModuleTerms.NumberTerm.{Called}
use Rattle.gdmo_names.specs.ArcViews.{braces_arcs, name_and_number, of_name, of_numbers, one_number, part_arcs}
use Rattle.gdmo_names.specs.ArcViews.{row_arcs, sure_numbers, value_arcs}
use Rattle.gdmo_names.specs.MemberViews.{arc_number}
use Rattle.accepted_laws.proofs.ListTerms.{SayOne}

arcs_say : SayOne ArcsAgree sure_numbers
arcs_say (SureNumber first second others) (SureNumber its_first its_second its_others) a =
    let firsts = a.0 in
    let seconds = a.1 in
    let behind = a.2 in
    λ i. firsts i ∷ arc_number (seconds i) ∷ map arc_number (behind i)
arcs_say (SureNumber _ _ _) (SureNamed _ _) a = absurd a
arcs_say (SureNamed _ _) (SureNumber _ _ _) a = absurd a
arcs_say (SureNamed first others) (SureNamed its_first its_others) a =
    let firsts = a.0 in
    let behind = a.1 in
    λ i. (firsts i).number ∷ map arc_number (behind i)

-- a part without a name, and one with a name
unnamed_say : (brace : Token) → SayOne ValuesAgree (λ x. part_arcs brace (Unnamed x))
unnamed_say brace (Literal _) (Literal _) a = refl
unnamed_say brace (Literal _) (Number _) a = absurd a
unnamed_say brace (Literal _) (Named _) a = absurd a
unnamed_say brace (Literal _) (Braces _ _) a = absurd a
unnamed_say brace (Number _) (Literal _) a = absurd a
unnamed_say brace (Number _) (Number _) a = ap (one_number brace) a
unnamed_say brace (Number _) (Named _) a = absurd a
unnamed_say brace (Number _) (Braces _ _) a = absurd a
unnamed_say brace (Named _) (Literal _) a = absurd a
unnamed_say brace (Named _) (Number _) a = absurd a
unnamed_say brace (Named (Name _)) (Named (Name _)) a = λ i. of_name brace (a i) []
unnamed_say brace (Named (Name _)) (Named (Choice' _ _ _)) a = absurd a
unnamed_say brace (Named (Choice' _ _ _)) (Named (Name _)) a = absurd a
unnamed_say brace (Named (Choice' _ _ _)) (Named (Choice' _ _ _)) a = refl
unnamed_say brace (Named _) (Braces _ _) a = absurd a
unnamed_say brace (Braces _ _) (Literal _) a = absurd a
unnamed_say brace (Braces _ _) (Number _) a = absurd a
unnamed_say brace (Braces _ _) (Named _) a = absurd a
unnamed_say brace (Braces _ _) (Braces _ _) a = refl

named_say : (brace name : Token) → SayOne ValuesAgree (λ x. part_arcs brace (NamedPart name x))
named_say brace name (Literal _) (Literal _) a = refl
named_say brace name (Literal _) (Number _) a = absurd a
named_say brace name (Literal _) (Named _) a = absurd a
named_say brace name (Literal _) (Braces _ _) a = absurd a
named_say brace name (Number _) (Literal _) a = absurd a
named_say brace name (Number _) (Number _) a = ap (name_and_number brace name) a
named_say brace name (Number _) (Named _) a = absurd a
named_say brace name (Number _) (Braces _ _) a = absurd a
named_say brace name (Named _) (Literal _) a = absurd a
named_say brace name (Named _) (Number _) a = absurd a
named_say brace name (Named _) (Named _) a = refl
named_say brace name (Named _) (Braces _ _) a = absurd a
named_say brace name (Braces _ _) (Literal _) a = absurd a
named_say brace name (Braces _ _) (Number _) a = absurd a
named_say brace name (Braces _ _) (Named _) a = absurd a
named_say brace name (Braces _ _) (Braces _ _) a = refl

parts_say : (brace : Token) → SayOne PartsAgree (part_arcs brace)
parts_say brace (NamedPart name x) (NamedPart other y) a =
    ap (λ n. part_arcs brace (NamedPart n x)) a.0 ∙ named_say brace other x y a.1
parts_say brace (NamedPart _ _) (Unnamed _) a = absurd a
parts_say brace (Unnamed _) (NamedPart _ _) a = absurd a
parts_say brace (Unnamed x) (Unnamed y) a = unnamed_say brace x y a

rows_say : {n m : _} (brace : Token) (x : Row_of-ValuePart n) (y : Row_of-ValuePart m) → RowsAgree x y →
    row_arcs brace x ≡ row_arcs brace y
rows_say brace end_of-ValuePart end_of-ValuePart a = refl
rows_say brace end_of-ValuePart (more_of-ValuePart y ys) a = absurd a
rows_say brace (more_of-ValuePart x xs) end_of-ValuePart a = absurd a
rows_say brace (more_of-ValuePart x end_of-ValuePart) (more_of-ValuePart y end_of-ValuePart) a =
    parts_say brace x y a.0
rows_say brace (more_of-ValuePart x end_of-ValuePart) (more_of-ValuePart y (more_of-ValuePart z zs)) a = absurd a.1
rows_say brace (more_of-ValuePart x (more_of-ValuePart z zs)) (more_of-ValuePart y end_of-ValuePart) a = absurd a.1
rows_say brace (more_of-ValuePart x (more_of-ValuePart z zs)) (more_of-ValuePart y (more_of-ValuePart w ws)) a = refl

contents_say : (brace : Token) → SayOne ContentsAgree (braces_arcs brace)
contents_say brace Nothing Nothing a = refl
contents_say brace Nothing (Parts' _ _) a = absurd a
contents_say brace Nothing (Arcs _) a = absurd a
contents_say brace Nothing (NamedArcs _ _) a = absurd a
contents_say brace (Parts' _ _) Nothing a = absurd a
contents_say brace (Parts' _ row) (Parts' _ other) a = rows_say brace row other a
contents_say brace (Parts' _ _) (Arcs _) a = absurd a
contents_say brace (Parts' _ _) (NamedArcs _ _) a = absurd a
contents_say brace (Arcs _) Nothing a = absurd a
contents_say brace (Arcs _) (Parts' _ _) a = absurd a
contents_say brace (Arcs x) (Arcs y) a = ap (of_numbers brace) (arcs_say x.value y.value a)
contents_say brace (Arcs _) (NamedArcs _ _) a = absurd a
contents_say brace (NamedArcs _ _) Nothing a = absurd a
contents_say brace (NamedArcs _ _) (Parts' _ _) a = absurd a
contents_say brace (NamedArcs _ _) (Arcs _) a = absurd a
contents_say brace (NamedArcs _ x) (NamedArcs _ y) a =
    let firsts = a.0 in
    let others = arcs_say x.value y.value a.1 in
    λ i. of_name brace (firsts i) (others i)

pub value_arcs_say : SayOne ValuesAgree value_arcs
value_arcs_say (Literal _) (Literal _) a = refl
value_arcs_say (Literal _) (Number _) a = absurd a
value_arcs_say (Literal _) (Named _) a = absurd a
value_arcs_say (Literal _) (Braces _ _) a = absurd a
value_arcs_say (Number _) (Literal _) a = absurd a
value_arcs_say (Number _) (Number _) a = refl
value_arcs_say (Number _) (Named _) a = absurd a
value_arcs_say (Number _) (Braces _ _) a = absurd a
value_arcs_say (Named _) (Literal _) a = absurd a
value_arcs_say (Named _) (Number _) a = absurd a
value_arcs_say (Named _) (Named _) a = refl
value_arcs_say (Named _) (Braces _ _) a = absurd a
value_arcs_say (Braces _ _) (Literal _) a = absurd a
value_arcs_say (Braces _ _) (Number _) a = absurd a
value_arcs_say (Braces _ _) (Named _) a = absurd a
value_arcs_say (Braces brace x) (Braces other y) a =
    ap (λ t. braces_arcs t x) a.0 ∙ contents_say other x y a.1

pub value_numbers_say : SayOne ValuesAgree value_number
value_numbers_say (Literal _) (Literal _) a = refl
value_numbers_say (Literal _) (Number _) a = absurd a
value_numbers_say (Literal _) (Named _) a = absurd a
value_numbers_say (Literal _) (Braces _ _) a = absurd a
value_numbers_say (Number _) (Literal _) a = absurd a
value_numbers_say (Number _) (Number _) a = λ i. Some (signed_term (a i))
value_numbers_say (Number _) (Named _) a = absurd a
value_numbers_say (Number _) (Braces _ _) a = absurd a
value_numbers_say (Named _) (Literal _) a = absurd a
value_numbers_say (Named _) (Number _) a = absurd a
value_numbers_say (Named (Name _)) (Named (Name _)) a = λ i. Some (Called (a i))
value_numbers_say (Named (Name _)) (Named (Choice' _ _ _)) a = absurd a
value_numbers_say (Named (Choice' _ _ _)) (Named (Name _)) a = absurd a
value_numbers_say (Named (Choice' _ _ _)) (Named (Choice' _ _ _)) a = refl
value_numbers_say (Named _) (Braces _ _) a = absurd a
value_numbers_say (Braces _ _) (Literal _) a = absurd a
value_numbers_say (Braces _ _) (Number _) a = absurd a
value_numbers_say (Braces _ _) (Named _) a = absurd a
value_numbers_say (Braces _ _) (Braces _ _) a = refl
