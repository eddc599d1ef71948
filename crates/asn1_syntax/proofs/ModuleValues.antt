-- No two modules have one tree.
use Rattle.token_grammar.specs.Form.{Leaf}
use Rattle.token_grammar.specs.Parts.{object_identifier_tree, vector_tree}
use Rattle.token_grammar.specs.PartLaws.{IdentifiersAgree, OneValue, OneValueBy}
use Rattle.token_grammar.proofs.Values.{first_not_second, first_same, leaf_same, lists_agree, numbered_same, one_list}
use Rattle.token_grammar.proofs.Values.{one_object_identifier, one_option, one_token, options_agree, pair_same}
use Rattle.token_grammar.proofs.Values.{second_not_first, second_same}
use Rattle.asn1_values_syntax.proofs.OneValue.{values_agree}
use Rattle.asn1_syntax.specs.declared.module.Assigned.TheVariants.{OfType, OfValue}
use Rattle.asn1_syntax.specs.ModuleTrees.{assigned_tree, assignment_tree, exports_tree, imports_tree, module_tree}
use Rattle.asn1_syntax.specs.ModuleTrees.{symbols_tree, tag_default_tree}
use Rattle.asn1_syntax.specs.TypeAgreement.{VectorsEqual}
use Rattle.asn1_syntax.specs.ModuleAgreement.{AssignedAgree, AssignmentsAgree, ExportsAgree, ImportsAgree, ModulesAgree}
use Rattle.asn1_syntax.specs.ModuleAgreement.{SymbolsAgree}
use Rattle.asn1_syntax.proofs.TypeValues.{types_agree}

token_lists : OneValueBy VectorsEqual (vector_tree Leaf)
token_lists x y e = one_list Leaf one_token x.items y.items e

one_tag_default : OneValue tag_default_tree
one_tag_default x y e = leaf_same (pair_same e).0

exports_agree : OneValueBy ExportsAgree exports_tree
exports_agree x y e = options_agree VectorsEqual (vector_tree Leaf) token_lists x.symbols y.symbols
    (pair_same (pair_same e).1).0

symbols_agree : OneValueBy SymbolsAgree symbols_tree
symbols_agree x y e =
    let parts = pair_same e in
    let rest = pair_same (pair_same parts.1).1 in (
      token_lists x.symbols y.symbols parts.0,
      leaf_same rest.0,
      options_agree IdentifiersAgree object_identifier_tree one_object_identifier x.identifier y.identifier rest.1,
    )

imports_agree : OneValueBy ImportsAgree imports_tree
imports_agree x y e =
    let parts = pair_same (pair_same e).1 in (
      symbols_agree x.first y.first parts.0,
      lists_agree SymbolsAgree symbols_tree symbols_agree x.others.items y.others.items (pair_same parts.1).0,
    )

assigned_agree : OneValueBy AssignedAgree assigned_tree
assigned_agree (OfType x) (OfType y) e = types_agree x y (pair_same (first_same e)).1
assigned_agree (OfType _) (OfValue _ _) e = absurd (first_not_second e)
assigned_agree (OfValue _ _) (OfType _) e = absurd (second_not_first e)
assigned_agree (OfValue of value) (OfValue of' value') e =
    let parts = pair_same (second_same e) in
    (types_agree of of' parts.0, values_agree value value' (pair_same parts.1).1)

pub assignments_agree : OneValueBy AssignmentsAgree assignment_tree
assignments_agree x y e =
    let parts = pair_same e in
    (leaf_same parts.0, assigned_agree x.assigned y.assigned parts.1)

pub modules_agree : OneValueBy ModulesAgree module_tree
modules_agree x y e =
    let whole = numbered_same e in
    let parts = pair_same whole.1 in
    let name = pair_same parts.0 in
    let identifier = pair_same name.1 in
    let mode = pair_same (pair_same identifier.1).1 in
    let exports = pair_same parts.1 in
    let imports = pair_same exports.1 in (
      whole.0,
      leaf_same name.0,
      options_agree IdentifiersAgree object_identifier_tree one_object_identifier x.identifier y.identifier
          identifier.0,
      one_option tag_default_tree one_tag_default x.tag_default y.tag_default mode.0,
      options_agree ExportsAgree exports_tree exports_agree x.exports y.exports exports.0,
      options_agree ImportsAgree imports_tree imports_agree x.imports y.imports imports.0,
      lists_agree AssignmentsAgree assignment_tree assignments_agree x.assignments.items y.assignments.items
          (pair_same imports.1).0,
    )
