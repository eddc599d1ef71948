-- No two types have one tree.
use Rattle.std.proofs.Common.{◌≡◌, ℕ, ◌+◌, suc, ◌∙◌, ap, arith}
use Rattle.token_grammar.specs.Form.{Tree, Leaf, Pair, Empty, After}
use Rattle.token_grammar.specs.Parts.{optional_tree}
use Rattle.token_grammar.specs.PartLaws.{OneValueBy, OptionsAgree}
use Rattle.token_grammar.proofs.Values.{absent_not_present, after_same, first_not_second, first_same, leaf_same}
use Rattle.token_grammar.proofs.Values.{lists_agree, numbered_same, one_option, one_token, options_agree, pair_same}
use Rattle.token_grammar.proofs.Values.{parts_of, present_not_absent, present_same, second_not_first, second_same}
use Rattle.asn1_values_syntax.proofs.OneValue.{values_agree}
use Rattle.asn1_syntax.specs.declared.presence.Presence.TheVariants.{Optional, Default}
use Rattle.asn1_syntax.specs.declared.type_text.TypeText.{TypeText, Row_of-Alternative, end_of-Alternative}
use Rattle.asn1_syntax.specs.declared.type_text.TypeText.{more_of-Alternative}
use Rattle.asn1_syntax.specs.declared.type_text.TypeText.TheVariants.{Tagged', Structured, Choice', Plain}
use Rattle.asn1_syntax.specs.declared.type_text.StructureText.{StructureText, Row_of-Component, end_of-Component}
use Rattle.asn1_syntax.specs.declared.type_text.StructureText.{more_of-Component, Held-StructureText-Components-0}
use Rattle.asn1_syntax.specs.declared.type_text.StructureText.{None', Some'}
use Rattle.asn1_syntax.specs.declared.type_text.StructureText.TheVariants.{Components', ListOf'}
use Rattle.asn1_values_syntax.specs.ConstraintTrees.{constraint_tree, list_size_tree}
use Rattle.asn1_syntax.specs.PresenceTree.{boxed_presence_tree, presence_tree}
use Rattle.asn1_syntax.specs.TypeTrees.{alternative_tree, alternatives_row, component_parts, component_tree}
use Rattle.asn1_syntax.specs.TypeTrees.{components_held, components_row, constraints_tree, structure_tree, type_tree}
use Rattle.asn1_syntax.specs.TypeAgreement.{AlternativeRowsAgree, AlternativesAgree, BoxedPresencesAgree}
use Rattle.asn1_syntax.specs.TypeAgreement.{ComponentRowsAgree, ComponentsAgree, ConstraintsAgree, HeldAgree}
use Rattle.asn1_syntax.specs.TypeAgreement.{PresencesAgree, StructuresAgree, TypesAgree, VectorsAgree, VectorsEqual}
use Rattle.asn1_syntax.proofs.PlainValues.{constraints_agree, list_sizes_agree, one_tag, plain_types_agree}

pub presences_agree : OneValueBy PresencesAgree presence_tree
presences_agree (Optional x) (Optional y) e = leaf_same (first_same e)
presences_agree (Optional x) (Default y) e = absurd (first_not_second e)
presences_agree (Default x) (Optional y) e = absurd (second_not_first e)
presences_agree (Default x) (Default y) e = values_agree x y (pair_same (second_same e)).1

boxes_agree : OneValueBy BoxedPresencesAgree boxed_presence_tree
boxes_agree x y e = presences_agree x.value y.value e

optional_presences : OneValueBy (OptionsAgree BoxedPresencesAgree) (optional_tree boxed_presence_tree)
optional_presences = options_agree BoxedPresencesAgree boxed_presence_tree boxes_agree

constraint_lists : OneValueBy (VectorsAgree ConstraintsAgree) constraints_tree
constraint_lists x y e = lists_agree ConstraintsAgree constraint_tree constraints_agree x.items y.items e

-- how many parts a row has, and its tree
abbrev components_size : {n : _} → Row_of-Component n → ℕ
components_size end_of-Component = 0
components_size (more_of-Component name of presence others) = suc (components_size others)

abbrev alternatives_size : {n : _} → Row_of-Alternative n → ℕ
alternatives_size end_of-Alternative = 0
alternatives_size (more_of-Alternative name of others) = suc (alternatives_size others)

one_more : (a b : ℕ) → suc a + b ≡ a + suc b
one_more a b = omega arith

parts_of_components : {n : _} (before : Tree) (row : Row_of-Component n) → parts_of (components_row before row) ≡
    parts_of before + components_size row
parts_of_components before end_of-Component = omega arith
parts_of_components before (more_of-Component name of presence others) = parts_of_components
    (After before (component_parts name (type_tree of) presence)) others ∙ one_more (parts_of before)
    (components_size others)

parts_of_alternatives : {n : _} (before : Tree) (row : Row_of-Alternative n) → parts_of (alternatives_row before row) ≡
    parts_of before + alternatives_size row
parts_of_alternatives before end_of-Alternative = omega arith
parts_of_alternatives before (more_of-Alternative name of others) = parts_of_alternatives
    (After before (Pair (Leaf name) (type_tree of))) others ∙ one_more (parts_of before) (alternatives_size others)

mutual
  pub types_agree : (x y : TypeText) → type_tree x ≡ type_tree y → TypesAgree x y
  types_agree (Tagged' tag mode place of) (Tagged' tag' mode' place' of') e = let parts = pair_same (first_same
      (numbered_same e).1) in let rest = pair_same parts.1 in
      (one_tag tag.value tag'.value parts.0, one_option Leaf one_token mode mode' rest.0, types_agree of of' rest.1)
  types_agree (Tagged' _ _ _ _) (Structured _ _) e = absurd (first_not_second (numbered_same e).1)
  types_agree (Tagged' _ _ _ _) (Choice' _ _ _ _) e = absurd (first_not_second (numbered_same e).1)
  types_agree (Tagged' _ _ _ _) (Plain _ _) e = absurd (first_not_second (numbered_same e).1)
  types_agree (Structured _ _) (Tagged' _ _ _ _) e = absurd (second_not_first (numbered_same e).1)
  types_agree (Structured word content) (Structured word' content') e = let parts = pair_same (first_same (second_same
      (numbered_same e).1)) in
      (leaf_same parts.0, structures_agree content content' parts.1)
  types_agree (Structured _ _) (Choice' _ _ _ _) e = absurd (first_not_second (second_same (numbered_same e).1))
  types_agree (Structured _ _) (Plain _ _) e = absurd (first_not_second (second_same (numbered_same e).1))
  types_agree (Choice' _ _ _ _) (Tagged' _ _ _ _) e = absurd (second_not_first (numbered_same e).1)
  types_agree (Choice' _ _ _ _) (Structured _ _) e = absurd (second_not_first (second_same (numbered_same e).1))
  types_agree (Choice' word shape row constraints) (Choice' word' shape' row' constraints') e = let parts = pair_same
      (first_same (second_same (second_same (numbered_same e).1))) in
      let rest = pair_same (pair_same parts.1).1 in let left = parts_of_alternatives Empty row in
      let right = parts_of_alternatives Empty row' in let same = ap parts_of rest.0 in (
        leaf_same parts.0,
        (alternatives_behind row row' Empty Empty (omega arith) rest.0).1,
        constraint_lists constraints constraints' (pair_same rest.1).1,
      )
  types_agree (Choice' _ _ _ _) (Plain _ _) e = absurd (first_not_second (second_same (second_same (numbered_same
      e).1)))
  types_agree (Plain _ _) (Tagged' _ _ _ _) e = absurd (second_not_first (numbered_same e).1)
  types_agree (Plain _ _) (Structured _ _) e = absurd (second_not_first (second_same (numbered_same e).1))
  types_agree (Plain _ _) (Choice' _ _ _ _) e = absurd (second_not_first (second_same (second_same (numbered_same
      e).1)))
  types_agree (Plain of constraints) (Plain of' constraints') e = let parts = pair_same (second_same (second_same
      (second_same (numbered_same e).1))) in
      (plain_types_agree of of' parts.0, constraint_lists constraints constraints' parts.1)

  structures_agree : (x y : StructureText) → structure_tree x ≡ structure_tree y → StructuresAgree x y
  structures_agree (Components' components constraints) (Components' components' constraints') e =
      let parts = pair_same (pair_same (first_same e)).1 in (
        held_agree components components' parts.0,
        constraint_lists constraints constraints' (pair_same parts.1).1,
      )
  structures_agree (Components' _ _) (ListOf' _ _ _) e = absurd (first_not_second e)
  structures_agree (ListOf' _ _ _) (Components' _ _) e = absurd (second_not_first e)
  structures_agree (ListOf' size place of) (ListOf' size' place' of') e = let parts = pair_same (second_same e) in (
    options_agree VectorsEqual list_size_tree list_sizes_agree size size' parts.0,
    types_agree of of' (pair_same parts.1).1,
  )

  held_agree : (x y : Held-StructureText-Components-0) → components_held x ≡ components_held y → HeldAgree x y
  held_agree None' None' e = tt
  held_agree None' (Some' _ _) e = absurd (absent_not_present e)
  held_agree (Some' _ _) None' e = absurd (present_not_absent e)
  held_agree (Some' shape row) (Some' shape' row') e = let same = present_same e in
      let left = parts_of_components Empty row in let right = parts_of_components Empty row' in
      let parts = ap parts_of same in (components_behind row row' Empty Empty (omega arith) same).1

  components_behind : {n m : _} (x : Row_of-Component n) (y : Row_of-Component m) (before other : Tree) →
      components_size x ≡ components_size y → components_row before x ≡ components_row other y → (before ≡ other) ×
      ComponentRowsAgree x y
  components_behind end_of-Component end_of-Component before other same e = (e, tt)
  components_behind end_of-Component (more_of-Component _ _ _ others) before other same e = absurd (omega arith)
  components_behind (more_of-Component _ _ _ others) end_of-Component before other same e = absurd (omega arith)
  components_behind (more_of-Component name of presence others) (more_of-Component name' of' presence' others') before
      other same e =
      let behind = components_behind others others' (After before (component_parts name (type_tree of) presence))
      (After other (component_parts name' (type_tree of') presence')) (omega arith) e in
      let last = after_same behind.0 in
      let parts = pair_same last.1 in
      let rest = pair_same parts.1 in (
        last.0,
        (leaf_same parts.0, types_agree of of' rest.0, optional_presences presence presence' rest.1, behind.1),
      )

  alternatives_behind : {n m : _} (x : Row_of-Alternative n) (y : Row_of-Alternative m) (before other : Tree) →
      alternatives_size x ≡ alternatives_size y → alternatives_row before x ≡ alternatives_row other y →
      (before ≡ other) × AlternativeRowsAgree x y
  alternatives_behind end_of-Alternative end_of-Alternative before other same e = (e, tt)
  alternatives_behind end_of-Alternative (more_of-Alternative _ _ others) before other same e = absurd (omega arith)
  alternatives_behind (more_of-Alternative _ _ others) end_of-Alternative before other same e = absurd (omega arith)
  alternatives_behind (more_of-Alternative name of others) (more_of-Alternative name' of' others') before other same
      e =
      let behind = alternatives_behind others others' (After before (Pair (Leaf name) (type_tree of)))
      (After other (Pair (Leaf name') (type_tree of'))) (omega arith) e in
      let last = after_same behind.0 in
      let parts = pair_same last.1 in
      (last.0, (leaf_same parts.0, types_agree of of' parts.1, behind.1))

pub components_agree : OneValueBy ComponentsAgree component_tree
components_agree x y e =
    let parts = pair_same e in
    let rest = pair_same parts.1 in
    (leaf_same parts.0, types_agree x.of y.of rest.0, optional_presences x.presence y.presence rest.1)

pub alternatives_agree : OneValueBy AlternativesAgree alternative_tree
alternatives_agree x y e =
    let parts = pair_same e in
    (leaf_same parts.0, types_agree x.of y.of parts.1)
