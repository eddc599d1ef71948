-- No two values have one tree: attribute and parameter templates, each in the other.
use Rattle.std.proofs.Common.{◌≡◌, ℕ, ◌+◌, suc, ◌∙◌, ap, arith}
use Rattle.token_grammar.specs.Form.{Tree, Empty, After}
use Rattle.token_grammar.specs.PartLaws.{OneValue, OneValueBy, OptionsAgree}
use Rattle.token_grammar.specs.Parts.{qualified_name_tree, vector_tree}
use Rattle.token_grammar.proofs.Values.{parts_of, pair_same, first_same, second_same, present_same, after_same}
use Rattle.token_grammar.proofs.Values.{first_not_second, second_not_first, absent_not_present, present_not_absent}
use Rattle.token_grammar.proofs.Values.{options_agree, one_label_reference, one_qualified_name}
use Rattle.gdmo_members.specs.declared.attribute.AttributeTemplate.{Row_of-ParameterReference}
use Rattle.gdmo_members.specs.declared.attribute.AttributeTemplate.{end_of-ParameterReference}
use Rattle.gdmo_members.specs.declared.attribute.AttributeTemplate.{more_of-ParameterReference}
use Rattle.gdmo_members.specs.declared.attribute.AttributeTemplate.{Held-AttributeTemplate-parameters, None', Some'}
use Rattle.gdmo_members.specs.declared.attribute.AttributeSyntax.{AttributeSyntax}
use Rattle.gdmo_members.specs.declared.attribute.AttributeSyntax.TheVariants.{TypeReference as AType, Derived}
use Rattle.gdmo_members.specs.declared.attribute.AttributeReference.{AttributeReference}
use Rattle.gdmo_members.specs.declared.attribute.AttributeReference.TheVariants.{Label as ALabel}
use Rattle.gdmo_members.specs.declared.attribute.AttributeReference.TheVariants.{Template' as ATemplate}
use Rattle.gdmo_members.specs.declared.parameter.ParameterSyntax.{ParameterSyntax}
use Rattle.gdmo_members.specs.declared.parameter.ParameterSyntax.TheVariants.{TypeReference as PType}
use Rattle.gdmo_members.specs.declared.parameter.ParameterSyntax.TheVariants.{Attribute as OfAttribute}
use Rattle.gdmo_members.specs.declared.parameter.ParameterReference.{ParameterReference}
use Rattle.gdmo_members.specs.declared.parameter.ParameterReference.TheVariants.{Label as PLabel}
use Rattle.gdmo_members.specs.declared.parameter.ParameterReference.TheVariants.{Template' as PTemplate}
use Rattle.gdmo_members.specs.Trees.{clause_tree, context_tree}
use Rattle.gdmo_members.specs.MemberTrees.{attribute_tree, attribute_syntax_tree, attribute_reference_tree}
use Rattle.gdmo_members.specs.MemberTrees.{parameter_tree, parameter_syntax_tree, parameter_reference_tree}
use Rattle.gdmo_members.specs.MemberTrees.{parameters_tree, row_tree, held_tree}
use Rattle.gdmo_members.specs.Agreement.{AttributesAgree, AttributeSyntaxesAgree, AttributeReferencesAgree}
use Rattle.gdmo_members.specs.Agreement.{ParametersAgree, ParameterSyntaxesAgree, ParameterReferencesAgree, RowsAgree}
use Rattle.gdmo_members.specs.Agreement.{HeldAgree, VectorsAgree, ContextsAgree}
use Rattle.gdmo_members.proofs.Values.{vectors_agree, clauses_agree, rules_agree, behaviours_agree, endings_agree}
use Rattle.gdmo_members.proofs.Values.{contexts_agree, template_same, three_same, four_same}

-- how many parts a row has, and its tree
abbrev row_size : {n : _} → Row_of-ParameterReference n → ℕ
row_size end_of-ParameterReference = 0
row_size (more_of-ParameterReference x xs) = suc (row_size xs)

one_more : (a b : ℕ) → suc a + b ≡ a + suc b
one_more a b = omega arith

parts_of_row : {n : _} (before : Tree) (row : Row_of-ParameterReference n)
    → parts_of (row_tree before row) ≡ parts_of before + row_size row
parts_of_row before end_of-ParameterReference = omega arith
parts_of_row before (more_of-ParameterReference x xs) =
    parts_of_row (After before (parameter_reference_tree x)) xs ∙ one_more (parts_of before) (row_size xs)

-- clauses of one part
one_clause_name : OneValue (clause_tree qualified_name_tree)
one_clause_name = clauses_agree ◌≡◌ qualified_name_tree one_qualified_name

one_context : OneValueBy ContextsAgree (clause_tree context_tree)
one_context = clauses_agree ContextsAgree context_tree contexts_agree

mutual
  pub syntaxes_agree : (x y : AttributeSyntax) → attribute_syntax_tree x ≡ attribute_syntax_tree y
      → AttributeSyntaxesAgree x y
  syntaxes_agree (AType x) (AType y) e = one_clause_name x y (first_same e)
  syntaxes_agree (AType x) (Derived y) e = absurd (first_not_second e)
  syntaxes_agree (Derived x) (AType y) e = absurd (second_not_first e)
  syntaxes_agree (Derived x) (Derived y) e = references_agree x y (pair_same (pair_same (second_same e)).1).0

  pub references_agree : (x y : AttributeReference) → attribute_reference_tree x ≡ attribute_reference_tree y
      → AttributeReferencesAgree x y
  references_agree (ALabel x) (ALabel y) e = one_label_reference x y (first_same e)
  references_agree (ALabel x) (ATemplate _ _ _ _ _ _ _ _) e = absurd (first_not_second e)
  references_agree (ATemplate _ _ _ _ _ _ _ _) (ALabel y) e = absurd (second_not_first e)
  references_agree (ATemplate _ document label syntax rules behaviour parameters registration)
      (ATemplate _ document' label' syntax' rules' behaviour' parameters' registration') e =
      let parts = template_same (second_same e) in
      let clauses = four_same parts.2 in (
        parts.0,
        parts.1,
        syntaxes_agree syntax syntax' (present_same clauses.0),
        rules_agree rules rules' clauses.1,
        behaviours_agree behaviour behaviour' clauses.2,
        held_agree parameters parameters' clauses.3,
        endings_agree registration registration' parts.3,
      )

  pub parameter_syntaxes_agree : (x y : ParameterSyntax) → parameter_syntax_tree x ≡ parameter_syntax_tree y
      → ParameterSyntaxesAgree x y
  parameter_syntaxes_agree (PType x) (PType y) e = one_clause_name x y (first_same e)
  parameter_syntaxes_agree (PType x) (OfAttribute y) e = absurd (first_not_second e)
  parameter_syntaxes_agree (OfAttribute x) (PType y) e = absurd (second_not_first e)
  parameter_syntaxes_agree (OfAttribute x) (OfAttribute y) e =
      references_agree x y (pair_same (pair_same (second_same e)).1).0

  pub parameter_references_agree : (x y : ParameterReference) → parameter_reference_tree x ≡ parameter_reference_tree y
      → ParameterReferencesAgree x y
  parameter_references_agree (PLabel x) (PLabel y) e = one_label_reference x y (first_same e)
  parameter_references_agree (PLabel x) (PTemplate _ _ _ _ _ _ _) e = absurd (first_not_second e)
  parameter_references_agree (PTemplate _ _ _ _ _ _ _) (PLabel y) e = absurd (second_not_first e)
  parameter_references_agree (PTemplate _ document label context syntax behaviour registration)
      (PTemplate _ document' label' context' syntax' behaviour' registration') e =
      let parts = template_same (second_same e) in
      let clauses = three_same parts.2 in (
        parts.0,
        parts.1,
        one_context context context' (present_same clauses.0),
        parameter_syntaxes_agree syntax syntax' (present_same clauses.1),
        behaviours_agree behaviour behaviour' clauses.2,
        endings_agree registration registration' parts.3,
      )

  rows_behind : {n m : _} (x : Row_of-ParameterReference n) (y : Row_of-ParameterReference m) (before other : Tree)
      → row_size x ≡ row_size y → row_tree before x ≡ row_tree other y → (before ≡ other) × RowsAgree x y
  rows_behind end_of-ParameterReference end_of-ParameterReference before other same e = (e, tt)
  rows_behind end_of-ParameterReference (more_of-ParameterReference y ys) before other same e = absurd (omega arith)
  rows_behind (more_of-ParameterReference x xs) end_of-ParameterReference before other same e = absurd (omega arith)
  rows_behind (more_of-ParameterReference x xs) (more_of-ParameterReference y ys) before other same e =
      let behind = rows_behind xs ys (After before (parameter_reference_tree x))
      (After other (parameter_reference_tree y)) (omega arith) e in
      let last = after_same behind.0 in
      (last.0, (parameter_references_agree x y last.1, behind.1))

  pub held_agree : (x y : Held-AttributeTemplate-parameters) → held_tree x ≡ held_tree y → HeldAgree x y
  held_agree None' None' e = tt
  held_agree None' (Some' _ _) e = absurd (absent_not_present e)
  held_agree (Some' _ _) None' e = absurd (present_not_absent e)
  held_agree (Some' _ row) (Some' _ row') e =
      let same = (pair_same (pair_same (present_same e)).1).0 in
      let left = parts_of_row Empty row in
      let right = parts_of_row Empty row' in
      let parts = ap parts_of same in
      (rows_behind row row' Empty Empty (omega arith) same).1

pub parameters_agree : OneValueBy (OptionsAgree (VectorsAgree ParameterReferencesAgree)) parameters_tree
parameters_agree = options_agree (VectorsAgree ParameterReferencesAgree)
    (clause_tree (vector_tree parameter_reference_tree))
    (clauses_agree (VectorsAgree ParameterReferencesAgree) (vector_tree parameter_reference_tree)
    (vectors_agree ParameterReferencesAgree parameter_reference_tree parameter_references_agree))

pub one_attribute : OneValueBy AttributesAgree attribute_tree
one_attribute x y e =
    let parts = template_same e in
    let clauses = four_same parts.2 in (
      parts.0,
      parts.1,
      syntaxes_agree x.syntax y.syntax (present_same clauses.0),
      rules_agree x.rules y.rules clauses.1,
      behaviours_agree x.behaviour y.behaviour clauses.2,
      parameters_agree x.parameters y.parameters clauses.3,
      endings_agree x.registration y.registration parts.3,
    )

pub one_parameter : OneValueBy ParametersAgree parameter_tree
one_parameter x y e =
    let parts = template_same e in
    let clauses = three_same parts.2 in (
      parts.0,
      parts.1,
      one_context x.context y.context (present_same clauses.0),
      parameter_syntaxes_agree x.syntax y.syntax (present_same clauses.1),
      behaviours_agree x.behaviour y.behaviour clauses.2,
      endings_agree x.registration y.registration parts.3,
    )
