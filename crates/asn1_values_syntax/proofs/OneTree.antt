-- Values that agree have one tree.
use Rattle.std.proofs.Common.{◌≡◌, refl, ap}
use Rattle.token_grammar.specs.Form.{Tree, Bare, Leaf, Pair, First, Second, Absent, Present, Empty, After, Numbered}
use Rattle.token_grammar.specs.PartLaws.{OneTreeBy}
use Rattle.token_grammar.specs.Parts.{arc_tree, list_tree}
use Rattle.asn1_values_syntax.specs.declared.arcs.SureArcs.TheVariants.{Number as ANumber, Named as ANamed}
use Rattle.asn1_values_syntax.specs.declared.value.ValueText.{ValueText}
use Rattle.asn1_values_syntax.specs.declared.value.ValueText.TheVariants.{Literal, Number, Named as VNamed, Braces}
use Rattle.asn1_values_syntax.specs.declared.value.NamedValue.{NamedValue}
use Rattle.asn1_values_syntax.specs.declared.value.NamedValue.TheVariants.{Name, Choice'}
use Rattle.asn1_values_syntax.specs.declared.value.BracesText.{BracesText, Row_of-ValuePart, end_of-ValuePart}
use Rattle.asn1_values_syntax.specs.declared.value.BracesText.{more_of-ValuePart}
use Rattle.asn1_values_syntax.specs.declared.value.BracesText.TheVariants.{Nothing, Parts', Arcs, NamedArcs}
use Rattle.asn1_values_syntax.specs.declared.value.ValuePart.{ValuePart}
use Rattle.asn1_values_syntax.specs.declared.value.ValuePart.TheVariants.{Named as PNamed, Unnamed}
use Rattle.asn1_values_syntax.specs.NumberTrees.{arcs_end_tree, named_arc_tree, signed_number_tree}
use Rattle.asn1_values_syntax.specs.ValueTrees.{content_tree, named_value_tree, part_tree, row_tree, value_tree}
use Rattle.asn1_values_syntax.specs.Agreement.{ArcsAgree, ContentsAgree, NamedValuesAgree, PartsAgree, RowsAgree}
use Rattle.asn1_values_syntax.specs.Agreement.{ValuesAgree}

arcs_alike : OneTreeBy ArcsAgree arcs_end_tree
arcs_alike (ANumber first second others) (ANumber first' second' others') a =
    let firsts = a.0 in
    let seconds = a.1 in
    let behind = a.2 in
    λ i. Pair (First (Pair (Leaf (firsts i)) (Pair (arc_tree (seconds i)) (list_tree arc_tree Empty (behind i)))))
    Bare
arcs_alike (ANumber _ _ _) (ANamed _ _) a = absurd a
arcs_alike (ANamed _ _) (ANumber _ _ _) a = absurd a
arcs_alike (ANamed first others) (ANamed first' others') a =
    let firsts = a.0 in
    let behind = a.1 in
    λ i. Pair (Second (Pair (named_arc_tree (firsts i)) (list_tree arc_tree Empty (behind i)))) Bare

mutual
  pub values_alike : (x y : ValueText) → ValuesAgree x y → value_tree x ≡ value_tree y
  values_alike (Literal x) (Literal x') a = λ i. Numbered 0 (First (Leaf (a i)))
  values_alike (Literal _) (Number _) a = absurd a
  values_alike (Literal _) (VNamed _) a = absurd a
  values_alike (Literal _) (Braces _ _) a = absurd a
  values_alike (Number _) (Literal _) a = absurd a
  values_alike (Number x) (Number x') a = λ i. Numbered 0 (Second (First (signed_number_tree (a i))))
  values_alike (Number _) (VNamed _) a = absurd a
  values_alike (Number _) (Braces _ _) a = absurd a
  values_alike (VNamed _) (Literal _) a = absurd a
  values_alike (VNamed _) (Number _) a = absurd a
  values_alike (VNamed x) (VNamed x') a = ap (λ (t : Tree). Numbered 0 (Second (Second (First (t)))))
      (named_values_alike x x' a)
  values_alike (VNamed _) (Braces _ _) a = absurd a
  values_alike (Braces _ _) (Literal _) a = absurd a
  values_alike (Braces _ _) (Number _) a = absurd a
  values_alike (Braces _ _) (VNamed _) a = absurd a
  values_alike (Braces brace x) (Braces brace' x') a = let braces = a.0 in let contents = contents_alike x x' a.1 in λ
      i. Numbered 0 (Second (Second (Second (Pair (Leaf (braces i)) (contents i)))))

  named_values_alike : (x y : NamedValue) → NamedValuesAgree x y → named_value_tree x ≡ named_value_tree y
  named_values_alike (Name name) (Name name') a = λ i. Pair (Leaf (a i)) Absent
  named_values_alike (Name _) (Choice' _ _ _) a = absurd a
  named_values_alike (Choice' _ _ _) (Name _) a = absurd a
  named_values_alike (Choice' name place value) (Choice' name' place' value') a = let names = a.0 in let values =
      values_alike value value' a.1 in λ i. Pair (Leaf (names i)) (Present (Pair Bare (values i)))

  contents_alike : (x y : BracesText) → ContentsAgree x y → content_tree x ≡ content_tree y
  contents_alike Nothing Nothing a = refl
  contents_alike Nothing (Parts' _ _) a = absurd a
  contents_alike Nothing (Arcs _) a = absurd a
  contents_alike Nothing (NamedArcs _ _) a = absurd a
  contents_alike (Parts' _ _) Nothing a = absurd a
  contents_alike (Parts' shape row) (Parts' shape' row') a = ap (λ (t : Tree). Second (First (Pair t Bare)))
      (rows_alike row row' Empty Empty refl a)
  contents_alike (Parts' _ _) (Arcs _) a = absurd a
  contents_alike (Parts' _ _) (NamedArcs _ _) a = absurd a
  contents_alike (Arcs _) Nothing a = absurd a
  contents_alike (Arcs _) (Parts' _ _) a = absurd a
  contents_alike (Arcs arcs) (Arcs arcs') a = ap (λ (t : Tree). Second (Second (First (t))))
      (arcs_alike arcs.value arcs'.value a)
  contents_alike (Arcs _) (NamedArcs _ _) a = absurd a
  contents_alike (NamedArcs _ _) Nothing a = absurd a
  contents_alike (NamedArcs _ _) (Parts' _ _) a = absurd a
  contents_alike (NamedArcs _ _) (Arcs _) a = absurd a
  contents_alike (NamedArcs first others) (NamedArcs first' others') a = let names = a.0 in let arcs = arcs_alike
      others.value others'.value a.1 in λ i. Second (Second (Second (Pair (Leaf (names i)) (arcs i))))

  pub parts_alike : (x y : ValuePart) → PartsAgree x y → part_tree x ≡ part_tree y
  parts_alike (PNamed name value) (PNamed name' value') a = let names = a.0 in let values = values_alike value value'
      a.1 in λ i. First (Pair (Leaf (names i)) (values i))
  parts_alike (PNamed _ _) (Unnamed _) a = absurd a
  parts_alike (Unnamed _) (PNamed _ _) a = absurd a
  parts_alike (Unnamed value) (Unnamed value') a = ap (λ (t : Tree). Second (t)) (values_alike value value' a)

  rows_alike : {n m : _} (x : Row_of-ValuePart n) (y : Row_of-ValuePart m) (before other : Tree) → before ≡ other →
      RowsAgree x y → row_tree before x ≡ row_tree other y
  rows_alike end_of-ValuePart end_of-ValuePart before other e a = e
  rows_alike end_of-ValuePart (more_of-ValuePart y ys) before other e a = absurd a
  rows_alike (more_of-ValuePart x xs) end_of-ValuePart before other e a = absurd a
  rows_alike (more_of-ValuePart x xs) (more_of-ValuePart y ys) before other e a =
      let last = parts_alike x y a.0 in
      rows_alike xs ys (After before (part_tree x)) (After other (part_tree y)) (λ i. After (e i) (last i)) a.1
