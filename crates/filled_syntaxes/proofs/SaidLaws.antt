-- SaidLaws: what the text of a value says, and where it begins, is told by its tree, so that a tree denotes one value or
-- none (X.680, section 17.7).
use Rattle.std.proofs.Common.{◌≡◌, ◌∙◌, ℕ, ◌∷◌, None, Some, refl, sym, ap, is_some, map}
use Rattle.std.specs.Prelude.{unwrap_or}
use Rattle.token_grammar.specs.declared.token.Token.{Token}
use Rattle.token_grammar.specs.Form.{Tree}
use Rattle.term_values.specs.Syntaxes.{TypeSyntax}
use Rattle.term_values.specs.Typed.{TypedValue}
use Rattle.asn1_values_syntax.specs.ValueTrees.{value_tree}
use Rattle.asn1_values_syntax.specs.Agreement.{ArcsAgree, ContentsAgree, NamedValuesAgree, PartsAgree, RowsAgree}
use Rattle.asn1_values_syntax.specs.Agreement.{ValuesAgree}
use Rattle.asn1_values_syntax.proofs.OneValue.{values_agree}
use Rattle.asn1_values_syntax.specs.declared.arcs.SureArcs.{SureArcs}
use Rattle.asn1_values_syntax.specs.declared.arcs.SureArcs.TheVariants.{Number as ANumber, Named as ANamed}
use Rattle.asn1_values_syntax.specs.declared.numbers.SignedNumber.{SignedNumber}
use Rattle.asn1_values_syntax.specs.declared.value.ValueText.{ValueText}
use Rattle.asn1_values_syntax.specs.declared.value.ValueText.TheVariants.{Literal, Number, Named as VNamed, Braces}
use Rattle.asn1_values_syntax.specs.declared.value.NamedValue.{NamedValue}
use Rattle.asn1_values_syntax.specs.declared.value.NamedValue.TheVariants.{Name, Choice'}
use Rattle.asn1_values_syntax.specs.declared.value.BracesText.{BracesText, Row_of-ValuePart, end_of-ValuePart}
use Rattle.asn1_values_syntax.specs.declared.value.BracesText.{more_of-ValuePart}
use Rattle.asn1_values_syntax.specs.declared.value.BracesText.TheVariants.{Nothing, Parts', Arcs, NamedArcs as BArcs}
use Rattle.asn1_values_syntax.specs.declared.value.ValuePart.{ValuePart}
use Rattle.asn1_values_syntax.specs.declared.value.ValuePart.TheVariants.{Named as PNamed, Unnamed}
use Rattle.asn1_leaf_values.specs.Arcs.{NamedArcs}
use Rattle.asn1_leaf_values.specs.TextValues.{arc_digits, arcs_digits, content_said, first_place}
use Rattle.asn1_leaf_values.specs.TextValues.{named_said, row_said, said, said_name, said_value}
use Rattle.asn1_leaf_values.specs.TextValues.TextValue.{Chosen, InArcs, InBraces, Literal as Said, Name as SaidName}
use Rattle.asn1_leaf_values.specs.TextValues.TextValue.{Number as SaidNumber}
use Rattle.asn1_leaf_values.specs.TextValues.TextParts.{AndText}
use Rattle.asn1_values.specs.Filters.{value_named}
use Rattle.filled_syntaxes.specs.SaidTexts.{DenotesNone, DenotesValue}

arcs_same : (x y : SureArcs) → ArcsAgree x y → arcs_digits x ≡ arcs_digits y
arcs_same (ANumber first second others) (ANumber first' second' others') a =
    λ i. (a.0 i).text ∷ (arc_digits (a.1 i) ∷ map arc_digits (a.2 i))
arcs_same (ANumber _ _ _) (ANamed _ _) a = absurd a
arcs_same (ANamed _ _) (ANumber _ _ _) a = absurd a
arcs_same (ANamed first others) (ANamed first' others') a = λ i. (a.0 i).number.text ∷ map arc_digits (a.1 i)

mutual
  said_same : (x y : ValueText) → ValuesAgree x y → said x ≡ said y
  said_same (Literal x) (Literal x') a = ap Said a
  said_same (Literal _) (Number _) a = absurd a
  said_same (Literal _) (VNamed _) a = absurd a
  said_same (Literal _) (Braces _ _) a = absurd a
  said_same (Number _) (Literal _) a = absurd a
  said_same (Number x) (Number x') a = ap (λ (n : SignedNumber). SaidNumber (is_some n.minus) n.number.text) a
  said_same (Number _) (VNamed _) a = absurd a
  said_same (Number _) (Braces _ _) a = absurd a
  said_same (VNamed _) (Literal _) a = absurd a
  said_same (VNamed _) (Number _) a = absurd a
  said_same (VNamed x) (VNamed x') a = named_same x x' a
  said_same (VNamed _) (Braces _ _) a = absurd a
  said_same (Braces _ _) (Literal _) a = absurd a
  said_same (Braces _ _) (Number _) a = absurd a
  said_same (Braces _ _) (VNamed _) a = absurd a
  said_same (Braces brace x) (Braces brace' x') a = content_same x x' a.1

  named_same : (x y : NamedValue) → NamedValuesAgree x y → named_said x ≡ named_said y
  named_same (Name name) (Name name') a = ap (λ (n : Token). SaidName n.text) a
  named_same (Name _) (Choice' _ _ _) a = absurd a
  named_same (Choice' _ _ _) (Name _) a = absurd a
  named_same (Choice' name place value) (Choice' name' place' value') a =
      let inner = said_same value value' a.1 in λ i. Chosen (a.0 i).text (inner i)

  content_same : (x y : BracesText) → ContentsAgree x y → content_said x ≡ content_said y
  content_same Nothing Nothing a = refl
  content_same Nothing (Parts' _ _) a = absurd a
  content_same Nothing (Arcs _) a = absurd a
  content_same Nothing (BArcs _ _) a = absurd a
  content_same (Parts' _ _) Nothing a = absurd a
  content_same (Parts' shape row) (Parts' shape' row') a = ap InBraces (rows_same row row' a)
  content_same (Parts' _ _) (Arcs _) a = absurd a
  content_same (Parts' _ _) (BArcs _ _) a = absurd a
  content_same (Arcs _) Nothing a = absurd a
  content_same (Arcs _) (Parts' _ _) a = absurd a
  content_same (Arcs x) (Arcs y) a = ap (InArcs None) (arcs_same x.value y.value a)
  content_same (Arcs _) (BArcs _ _) a = absurd a
  content_same (BArcs _ _) Nothing a = absurd a
  content_same (BArcs _ _) (Parts' _ _) a = absurd a
  content_same (BArcs _ _) (Arcs _) a = absurd a
  content_same (BArcs first x) (BArcs first' y) a =
      let arcs = arcs_same x.value y.value a.1 in λ i. InArcs (Some (a.0 i).text) (arcs i)

  part_same : (x y : ValuePart) → PartsAgree x y → (said_name x ≡ said_name y) × (said_value x ≡ said_value y)
  part_same (PNamed name value) (PNamed name' value') a =
      (ap (λ (n : Token). n.text) a.0, said_same value value' a.1)
  part_same (PNamed _ _) (Unnamed _) a = absurd a
  part_same (Unnamed _) (PNamed _ _) a = absurd a
  part_same (Unnamed value) (Unnamed value') a = (refl, said_same value value' a)

  rows_same : {n m : _} (x : Row_of-ValuePart n) (y : Row_of-ValuePart m) → RowsAgree x y → row_said x ≡ row_said y
  rows_same end_of-ValuePart end_of-ValuePart a = refl
  rows_same end_of-ValuePart (more_of-ValuePart y ys) a = absurd a
  rows_same (more_of-ValuePart x xs) end_of-ValuePart a = absurd a
  rows_same (more_of-ValuePart x xs) (more_of-ValuePart y ys) a =
      let part = part_same x y a.0 in
      let rest = rows_same xs ys a.1 in λ i. AndText (part.0 i) (part.1 i) (rest i)

named_place_same : (x y : NamedValue) → NamedValuesAgree x y → first_place (VNamed x) ≡ first_place (VNamed y)
named_place_same (Name name) (Name name') a = ap (λ (n : Token). n.at) a
named_place_same (Name _) (Choice' _ _ _) a = absurd a
named_place_same (Choice' _ _ _) (Name _) a = absurd a
named_place_same (Choice' name place value) (Choice' name' place' value') a = ap (λ (n : Token). n.at) a.0

place_same : (x y : ValueText) → ValuesAgree x y → first_place x ≡ first_place y
place_same (Literal x) (Literal x') a = ap (λ (n : Token). n.at) a
place_same (Literal _) (Number _) a = absurd a
place_same (Literal _) (VNamed _) a = absurd a
place_same (Literal _) (Braces _ _) a = absurd a
place_same (Number _) (Literal _) a = absurd a
place_same (Number x) (Number x') a = ap (λ (n : SignedNumber). first_place (Number n)) a
place_same (Number _) (VNamed _) a = absurd a
place_same (Number _) (Braces _ _) a = absurd a
place_same (VNamed _) (Literal _) a = absurd a
place_same (VNamed _) (Number _) a = absurd a
place_same (VNamed x) (VNamed x') a = named_place_same x x' a
place_same (VNamed _) (Braces _ _) a = absurd a
place_same (Braces _ _) (Literal _) a = absurd a
place_same (Braces _ _) (Number _) a = absurd a
place_same (Braces _ _) (VNamed _) a = absurd a
place_same (Braces brace x) (Braces brace' x') a = ap (λ (n : Token). n.at) a.0

-- ---- a tree denotes one value, or none, which begins at one place

told_same : (x y : ValueText) (tree : Tree) → value_tree x ≡ tree → value_tree y ≡ tree → said x ≡ said y
told_same x y tree one other = said_same x y (values_agree x y (one ∙ sym other))

told_place : (x y : ValueText) (tree : Tree) → value_tree x ≡ tree → value_tree y ≡ tree → first_place x ≡ first_place y
told_place x y tree one other = place_same x y (values_agree x y (one ∙ sym other))

pub one_value : (names : NamedArcs) (syntax : TypeSyntax) (tree : Tree) {one other : TypedValue} →
    DenotesValue names syntax tree one → DenotesValue names syntax tree other → one ≡ other
one_value names syntax tree {one = one} {other = other} x y =
    ap (λ z. unwrap_or z one) (sym x.denotes ∙
    ap (value_named names syntax) (told_same x.text y.text tree x.told y.told) ∙ y.denotes)

pub not_both : (names : NamedArcs) (syntax : TypeSyntax) (tree : Tree) {value : TypedValue} {at : ℕ} →
    DenotesValue names syntax tree value → DenotesNone names syntax tree at → ⊥
not_both names syntax tree x y =
    let same = sym x.denotes ∙ ap (value_named names syntax) (told_same x.text y.text tree x.told y.told) ∙ y.denotes in
    absurd (cc)

pub one_place : (names : NamedArcs) (syntax : TypeSyntax) (tree : Tree) {one other : ℕ} →
    DenotesNone names syntax tree one → DenotesNone names syntax tree other → one ≡ other
one_place names syntax tree x y = sym x.begins ∙ told_place x.text y.text tree x.told y.told ∙ y.begins
