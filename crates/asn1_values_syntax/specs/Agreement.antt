-- Agreement: two values are equal in all but the place and the capacity of the memory of their lists and boxes,
-- which no text says (X.680, section 17.7).
use Rattle.std.specs.Prelude.{◌≡◌}
use Rattle.asn1_values_syntax.specs.declared.arcs.SureArcs.{SureArcs}
use Rattle.asn1_values_syntax.specs.declared.arcs.SureArcs.TheVariants.{Number as ANumber, Named as ANamed}
use Rattle.asn1_values_syntax.specs.declared.value.ValueText.{ValueText}
use Rattle.asn1_values_syntax.specs.declared.value.ValueText.TheVariants.{Literal, Number, Named as VNamed, Braces}
use Rattle.asn1_values_syntax.specs.declared.value.NamedValue.{NamedValue}
use Rattle.asn1_values_syntax.specs.declared.value.NamedValue.TheVariants.{Name, Choice'}
use Rattle.asn1_values_syntax.specs.declared.value.BracesText.{BracesText, Row_of-ValuePart, end_of-ValuePart}
use Rattle.asn1_values_syntax.specs.declared.value.BracesText.{more_of-ValuePart}
use Rattle.asn1_values_syntax.specs.declared.value.BracesText.TheVariants.{Nothing, Parts', Arcs, NamedArcs}
use Rattle.asn1_values_syntax.specs.declared.value.ValuePart.{ValuePart}
use Rattle.asn1_values_syntax.specs.declared.value.ValuePart.TheVariants.{Named as PNamed, Unnamed}

abbrev pub ArcsAgree : SureArcs → SureArcs → Type 0
ArcsAgree (ANumber first second others) (ANumber first' second' others') = (first ≡ first') × (second ≡ second') ×
    (others.items ≡ others'.items)
ArcsAgree (ANumber _ _ _) (ANamed _ _) = ⊥
ArcsAgree (ANamed _ _) (ANumber _ _ _) = ⊥
ArcsAgree (ANamed first others) (ANamed first' others') = (first ≡ first') × (others.items ≡ others'.items)

abbrev mutual
  pub ValuesAgree : ValueText → ValueText → Type 0
  ValuesAgree (Literal x) (Literal x') = x ≡ x'
  ValuesAgree (Literal _) (Number _) = ⊥
  ValuesAgree (Literal _) (VNamed _) = ⊥
  ValuesAgree (Literal _) (Braces _ _) = ⊥
  ValuesAgree (Number _) (Literal _) = ⊥
  ValuesAgree (Number x) (Number x') = x ≡ x'
  ValuesAgree (Number _) (VNamed _) = ⊥
  ValuesAgree (Number _) (Braces _ _) = ⊥
  ValuesAgree (VNamed _) (Literal _) = ⊥
  ValuesAgree (VNamed _) (Number _) = ⊥
  ValuesAgree (VNamed x) (VNamed x') = NamedValuesAgree x x'
  ValuesAgree (VNamed _) (Braces _ _) = ⊥
  ValuesAgree (Braces _ _) (Literal _) = ⊥
  ValuesAgree (Braces _ _) (Number _) = ⊥
  ValuesAgree (Braces _ _) (VNamed _) = ⊥
  ValuesAgree (Braces brace x) (Braces brace' x') = (brace ≡ brace') × ContentsAgree x x'

  pub NamedValuesAgree : NamedValue → NamedValue → Type 0
  NamedValuesAgree (Name name) (Name name') = name ≡ name'
  NamedValuesAgree (Name _) (Choice' _ _ _) = ⊥
  NamedValuesAgree (Choice' _ _ _) (Name _) = ⊥
  NamedValuesAgree (Choice' name place value) (Choice' name' place' value') = (name ≡ name') × ValuesAgree value
      value'

  pub ContentsAgree : BracesText → BracesText → Type 0
  ContentsAgree Nothing Nothing = Unit {0}
  ContentsAgree Nothing (Parts' _ _) = ⊥
  ContentsAgree Nothing (Arcs _) = ⊥
  ContentsAgree Nothing (NamedArcs _ _) = ⊥
  ContentsAgree (Parts' _ _) Nothing = ⊥
  ContentsAgree (Parts' shape row) (Parts' shape' row') = RowsAgree row row'
  ContentsAgree (Parts' _ _) (Arcs _) = ⊥
  ContentsAgree (Parts' _ _) (NamedArcs _ _) = ⊥
  ContentsAgree (Arcs _) Nothing = ⊥
  ContentsAgree (Arcs _) (Parts' _ _) = ⊥
  ContentsAgree (Arcs arcs) (Arcs arcs') = ArcsAgree arcs.value arcs'.value
  ContentsAgree (Arcs _) (NamedArcs _ _) = ⊥
  ContentsAgree (NamedArcs _ _) Nothing = ⊥
  ContentsAgree (NamedArcs _ _) (Parts' _ _) = ⊥
  ContentsAgree (NamedArcs _ _) (Arcs _) = ⊥
  ContentsAgree (NamedArcs first others) (NamedArcs first' others') = (first ≡ first') × ArcsAgree others.value
      others'.value

  pub PartsAgree : ValuePart → ValuePart → Type 0
  PartsAgree (PNamed name value) (PNamed name' value') = (name ≡ name') × ValuesAgree value value'
  PartsAgree (PNamed _ _) (Unnamed _) = ⊥
  PartsAgree (Unnamed _) (PNamed _ _) = ⊥
  PartsAgree (Unnamed value) (Unnamed value') = ValuesAgree value value'

  pub RowsAgree : {n m : _} → Row_of-ValuePart n → Row_of-ValuePart m → Type 0
  RowsAgree end_of-ValuePart end_of-ValuePart = Unit {0}
  RowsAgree end_of-ValuePart (more_of-ValuePart y ys) = ⊥
  RowsAgree (more_of-ValuePart x xs) end_of-ValuePart = ⊥
  RowsAgree (more_of-ValuePart x xs) (more_of-ValuePart y ys) = PartsAgree x y × RowsAgree xs ys
