-- No two values have one tree.
use Rattle.std.proofs.Common.{◌≡◌, ℕ, ◌+◌, suc, ◌∙◌, ap, arith}
use Rattle.token_grammar.specs.Form.{Tree, Leaf, Empty, After}
use Rattle.token_grammar.specs.PartLaws.{OneValue, OneValueBy}
use Rattle.token_grammar.specs.Parts.{arc_tree}
use Rattle.token_grammar.proofs.Values.{after_same, first_not_second, first_same, leaf_same, absent_not_present}
use Rattle.token_grammar.proofs.Values.{numbered_same, one_arc, one_list, one_option, one_token, pair_same, parts_of}
use Rattle.token_grammar.proofs.Values.{present_not_absent, present_same, second_not_first, second_same}
use Rattle.asn1_values_syntax.specs.declared.arcs.SureArcs.TheVariants.{Number as ANumber, Named as ANamed}
use Rattle.asn1_values_syntax.specs.declared.numbers.Bound.TheVariants.{Number as BNumber, Name as BName}
use Rattle.asn1_values_syntax.specs.declared.value.ValueText.{ValueText}
use Rattle.asn1_values_syntax.specs.declared.value.ValueText.TheVariants.{Literal, Number, Named as VNamed, Braces}
use Rattle.asn1_values_syntax.specs.declared.value.NamedValue.{NamedValue}
use Rattle.asn1_values_syntax.specs.declared.value.NamedValue.TheVariants.{Name, Choice'}
use Rattle.asn1_values_syntax.specs.declared.value.BracesText.{BracesText, Row_of-ValuePart, end_of-ValuePart}
use Rattle.asn1_values_syntax.specs.declared.value.BracesText.{more_of-ValuePart}
use Rattle.asn1_values_syntax.specs.declared.value.BracesText.TheVariants.{Nothing, Parts', Arcs, NamedArcs}
use Rattle.asn1_values_syntax.specs.declared.value.ValuePart.{ValuePart}
use Rattle.asn1_values_syntax.specs.declared.value.ValuePart.TheVariants.{Named as PNamed, Unnamed}
use Rattle.asn1_values_syntax.specs.NumberTrees.{arcs_end_tree, bound_tree, named_arc_tree, signed_number_tree}
use Rattle.asn1_values_syntax.specs.ValueTrees.{content_tree, named_value_tree, part_tree, row_tree, value_tree}
use Rattle.asn1_values_syntax.specs.Agreement.{ArcsAgree, ContentsAgree, NamedValuesAgree, PartsAgree, RowsAgree}
use Rattle.asn1_values_syntax.specs.Agreement.{ValuesAgree}

pub one_signed_number : OneValue signed_number_tree
one_signed_number x y e =
    let parts = pair_same e in
    let minus = one_option Leaf one_token x.minus y.minus parts.0 in
    let number = leaf_same parts.1 in
    λ i. record { minus = minus i; number = number i }

pub one_bound : OneValue bound_tree
one_bound (BNumber x) (BNumber y) e = ap BNumber (one_signed_number x y (first_same e))
one_bound (BNumber x) (BName y) e = absurd (first_not_second e)
one_bound (BName x) (BNumber y) e = absurd (second_not_first e)
one_bound (BName x) (BName y) e = ap BName (leaf_same (second_same e))

one_named_arc : OneValue named_arc_tree
one_named_arc x y e =
    let parts = pair_same e in
    let name = leaf_same parts.0 in
    let number = leaf_same (pair_same (pair_same parts.1).1).0 in
    λ i. record { name = name i; number = number i }

arcs_agree : OneValueBy ArcsAgree arcs_end_tree
arcs_agree (ANumber first second others) (ANumber first' second' others') e =
    let parts = pair_same (first_same (pair_same e).0) in
    let behind = pair_same parts.1 in (
      leaf_same parts.0,
      one_arc second second' behind.0,
      one_list arc_tree one_arc others.items others'.items
          behind.1,
    )
arcs_agree (ANumber _ _ _) (ANamed _ _) e = absurd (first_not_second (pair_same e).0)
arcs_agree (ANamed _ _) (ANumber _ _ _) e = absurd (second_not_first (pair_same e).0)
arcs_agree (ANamed first others) (ANamed first' others') e =
    let parts = pair_same (second_same (pair_same e).0) in
    (one_named_arc first first' parts.0, one_list arc_tree one_arc others.items others'.items parts.1)

-- how many parts a row has, and its tree
abbrev row_size : {n : _} → Row_of-ValuePart n → ℕ
row_size end_of-ValuePart = 0
row_size (more_of-ValuePart x xs) = suc (row_size xs)

one_more : (a b : ℕ) → suc a + b ≡ a + suc b
one_more a b = omega arith

parts_of_row : {n : _} (before : Tree) (row : Row_of-ValuePart n) → parts_of (row_tree before row) ≡ parts_of before +
    row_size row
parts_of_row before end_of-ValuePart = omega arith
parts_of_row before (more_of-ValuePart x xs) = parts_of_row (After before (part_tree x)) xs ∙ one_more
    (parts_of before)
    (row_size xs)

mutual
  pub values_agree : (x y : ValueText) → value_tree x ≡ value_tree y → ValuesAgree x y
  values_agree (Literal x) (Literal x') e = leaf_same (first_same (numbered_same e).1)
  values_agree (Literal _) (Number _) e = absurd (first_not_second (numbered_same e).1)
  values_agree (Literal _) (VNamed _) e = absurd (first_not_second (numbered_same e).1)
  values_agree (Literal _) (Braces _ _) e = absurd (first_not_second (numbered_same e).1)
  values_agree (Number _) (Literal _) e = absurd (second_not_first (numbered_same e).1)
  values_agree (Number x) (Number x') e = one_signed_number x x' (first_same (second_same (numbered_same e).1))
  values_agree (Number _) (VNamed _) e = absurd (first_not_second (second_same (numbered_same e).1))
  values_agree (Number _) (Braces _ _) e = absurd (first_not_second (second_same (numbered_same e).1))
  values_agree (VNamed _) (Literal _) e = absurd (second_not_first (numbered_same e).1)
  values_agree (VNamed _) (Number _) e = absurd (second_not_first (second_same (numbered_same e).1))
  values_agree (VNamed x) (VNamed x') e = named_values_agree x x' (first_same
      (second_same (second_same (numbered_same e).1)))
  values_agree (VNamed _) (Braces _ _) e = absurd (first_not_second (second_same (second_same (numbered_same e).1)))
  values_agree (Braces _ _) (Literal _) e = absurd (second_not_first (numbered_same e).1)
  values_agree (Braces _ _) (Number _) e = absurd (second_not_first (second_same (numbered_same e).1))
  values_agree (Braces _ _) (VNamed _) e = absurd (second_not_first (second_same (second_same (numbered_same e).1)))
  values_agree (Braces brace x) (Braces brace' x') e = let parts = pair_same
      (second_same (second_same (second_same (numbered_same e).1))) in
      (leaf_same parts.0, contents_agree x x' parts.1)

  named_values_agree : (x y : NamedValue) → named_value_tree x ≡ named_value_tree y → NamedValuesAgree x y
  named_values_agree (Name name) (Name name') e = leaf_same (pair_same e).0
  named_values_agree (Name _) (Choice' _ _ _) e = absurd (absent_not_present (pair_same e).1)
  named_values_agree (Choice' _ _ _) (Name _) e = absurd (present_not_absent (pair_same e).1)
  named_values_agree (Choice' name place value) (Choice' name' place' value') e = let parts = pair_same e in
      (leaf_same parts.0, values_agree value value' (pair_same (present_same parts.1)).1)

  contents_agree : (x y : BracesText) → content_tree x ≡ content_tree y → ContentsAgree x y
  contents_agree Nothing Nothing e = tt
  contents_agree Nothing (Parts' _ _) e = absurd (first_not_second e)
  contents_agree Nothing (Arcs _) e = absurd (first_not_second e)
  contents_agree Nothing (NamedArcs _ _) e = absurd (first_not_second e)
  contents_agree (Parts' _ _) Nothing e = absurd (second_not_first e)
  contents_agree (Parts' shape row) (Parts' shape' row') e = let same = (pair_same (first_same (second_same e))).0 in
      let left = parts_of_row Empty row in let right = parts_of_row Empty row' in let parts = ap parts_of same in
      (rows_behind row row' Empty Empty (omega arith) same).1
  contents_agree (Parts' _ _) (Arcs _) e = absurd (first_not_second (second_same e))
  contents_agree (Parts' _ _) (NamedArcs _ _) e = absurd (first_not_second (second_same e))
  contents_agree (Arcs _) Nothing e = absurd (second_not_first e)
  contents_agree (Arcs _) (Parts' _ _) e = absurd (second_not_first (second_same e))
  contents_agree (Arcs arcs) (Arcs arcs') e = arcs_agree arcs.value arcs'.value
      (first_same (second_same (second_same e)))
  contents_agree (Arcs _) (NamedArcs _ _) e = absurd (first_not_second (second_same (second_same e)))
  contents_agree (NamedArcs _ _) Nothing e = absurd (second_not_first e)
  contents_agree (NamedArcs _ _) (Parts' _ _) e = absurd (second_not_first (second_same e))
  contents_agree (NamedArcs _ _) (Arcs _) e = absurd (second_not_first (second_same (second_same e)))
  contents_agree (NamedArcs first others) (NamedArcs first' others') e = let parts = pair_same
      (second_same (second_same (second_same e))) in (
        leaf_same parts.0,
        arcs_agree others.value others'.value
            parts.1,
      )

  pub parts_agree : (x y : ValuePart) → part_tree x ≡ part_tree y → PartsAgree x y
  parts_agree (PNamed name value) (PNamed name' value') e = let parts = pair_same (first_same e) in
      (leaf_same parts.0, values_agree value value' parts.1)
  parts_agree (PNamed _ _) (Unnamed _) e = absurd (first_not_second e)
  parts_agree (Unnamed _) (PNamed _ _) e = absurd (second_not_first e)
  parts_agree (Unnamed value) (Unnamed value') e = values_agree value value' (second_same e)

  rows_behind : {n m : _} (x : Row_of-ValuePart n) (y : Row_of-ValuePart m) (before other : Tree) → row_size x ≡
      row_size y → row_tree before x ≡ row_tree other y → (before ≡ other) × RowsAgree x y
  rows_behind end_of-ValuePart end_of-ValuePart before other same e = (e, tt)
  rows_behind end_of-ValuePart (more_of-ValuePart y ys) before other same e = absurd (omega arith)
  rows_behind (more_of-ValuePart x xs) end_of-ValuePart before other same e = absurd (omega arith)
  rows_behind (more_of-ValuePart x xs) (more_of-ValuePart y ys) before other same e =
      let behind = rows_behind xs ys (After before (part_tree x)) (After other (part_tree y)) (omega arith) e in
      let last = after_same behind.0 in
      (last.0, (parts_agree x y last.1, behind.1))
