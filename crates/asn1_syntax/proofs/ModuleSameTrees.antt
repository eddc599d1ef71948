-- Modules that agree have one tree.
use Rattle.std.proofs.Common.{refl, ap}
use Rattle.token_grammar.specs.Form.{Tree, Bare, Leaf, Pair, First, Second, Empty, Numbered}
use Rattle.token_grammar.specs.Parts.{object_identifier_tree, optional_tree, vector_tree}
use Rattle.token_grammar.specs.PartLaws.{IdentifiersAgree, OneTreeBy, OptionsAgree}
use Rattle.token_grammar.proofs.Values.{identifiers_alike, lists_alike, options_alike}
use Rattle.asn1_values_syntax.proofs.OneTree.{values_alike}
use Rattle.asn1_syntax.specs.declared.module.Assigned.TheVariants.{OfType, OfValue}
use Rattle.asn1_syntax.specs.ModuleTrees.{assigned_tree, assignment_tree, exports_tree, imports_tree, module_tree}
use Rattle.asn1_syntax.specs.ModuleTrees.{symbols_tree, tag_default_tree}
use Rattle.asn1_syntax.specs.TypeAgreement.{VectorsEqual}
use Rattle.asn1_syntax.specs.ModuleAgreement.{AssignedAgree, AssignmentsAgree, ExportsAgree, ImportsAgree, ModulesAgree}
use Rattle.asn1_syntax.specs.ModuleAgreement.{SymbolsAgree}
use Rattle.asn1_syntax.proofs.TypeSameTrees.{types_alike, vectors_equal}

optional_identifiers : OneTreeBy (OptionsAgree IdentifiersAgree) (optional_tree object_identifier_tree)
optional_identifiers = options_alike IdentifiersAgree object_identifier_tree identifiers_alike

exports_alike : OneTreeBy ExportsAgree exports_tree
exports_alike x y a = ap (λ (t : Tree). Pair Bare (Pair t Bare))
    (options_alike VectorsEqual (vector_tree Leaf) (vectors_equal Leaf) x.symbols y.symbols a)

symbols_alike : OneTreeBy SymbolsAgree symbols_tree
symbols_alike x y a =
    let symbols = vectors_equal Leaf x.symbols y.symbols a.0 in
    let names = a.1 in
    let identifiers = optional_identifiers x.identifier y.identifier a.2 in
    λ i. Pair (symbols i) (Pair Bare (Pair (Leaf (names i)) (identifiers i)))

imports_alike : OneTreeBy ImportsAgree imports_tree
imports_alike x y a =
    let first = symbols_alike x.first y.first a.0 in
    let others = lists_alike SymbolsAgree symbols_tree symbols_alike x.others.items y.others.items Empty Empty refl
    a.1 in
    λ i. Pair Bare (Pair (first i) (Pair (others i) Bare))

assigned_alike : OneTreeBy AssignedAgree assigned_tree
assigned_alike (OfType x) (OfType y) a = ap (λ (t : Tree). First (Pair Bare t)) (types_alike x y a)
assigned_alike (OfType _) (OfValue _ _) a = absurd a
assigned_alike (OfValue _ _) (OfType _) a = absurd a
assigned_alike (OfValue of value) (OfValue of' value') a =
    let types = types_alike of of' a.0 in
    let values = values_alike value value' a.1 in
    λ i. Second (Pair (types i) (Pair Bare (values i)))

pub assignments_alike : OneTreeBy AssignmentsAgree assignment_tree
assignments_alike x y a =
    let names = a.0 in
    let assigned = assigned_alike x.assigned y.assigned a.1 in
    λ i. Pair (Leaf (names i)) (assigned i)

pub modules_alike : OneTreeBy ModulesAgree module_tree
modules_alike x y a =
    let documents = a.0 in
    let names = a.1 in
    let identifiers = optional_identifiers x.identifier y.identifier a.2 in
    let modes = a.3 in
    let exports = options_alike ExportsAgree exports_tree exports_alike x.exports y.exports a.4 in
    let imports = options_alike ImportsAgree imports_tree imports_alike x.imports y.imports a.5 in
    let assignments = lists_alike AssignmentsAgree assignment_tree assignments_alike x.assignments.items
    y.assignments.items Empty Empty refl a.6 in
    λ i. Numbered (documents i) (Pair (Pair (Leaf (names i)) (Pair (identifiers i)
    (Pair Bare (Pair (optional_tree tag_default_tree (modes i)) (Pair Bare Bare)))))
    (Pair (exports i) (Pair (imports i) (Pair (assignments i) Bare))))
