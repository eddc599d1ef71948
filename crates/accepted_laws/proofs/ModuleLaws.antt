-- ModuleLaws: modules that agree say one thing, where both have the number of one document (X.680, sections 13 to 17;
-- docs/PROFILE.md, sections 2 and 8).
use Rattle.std.specs.Prelude.{flat_map}
use Rattle.std.proofs.Common.{◌≡◌, ℕ, List, [], ◌∷◌, ◌++◌, None, Some, refl}
use Rattle.token_grammar.specs.PartLaws.{IdentifiersAgree, ListsAgree, OptionsAgree}
use Rattle.asn1_values_syntax.proofs.OneTree.{values_alike}
use Rattle.asn1_syntax.specs.declared.module.Assigned.TheVariants.{OfType, OfValue}
use Rattle.asn1_syntax.specs.declared.module.ImportedSymbols.{ImportedSymbols}
use Rattle.asn1_syntax.specs.ModuleAgreement.{AssignedAgree, AssignmentsAgree, ImportsAgree, ModulesAgree, SymbolsAgree}
use Rattle.asn1_names.specs.ModuleTerms.AssignedTerm.{AssignsType, AssignsValue}
use Rattle.asn1_names.specs.TermViews.{assigned_term, assignment_term, has_implicit_tags, import_term, import_terms}
use Rattle.gdmo_names.specs.PartViews.{assigned_arcs, identifier_list, imported_identifiers, module_part}
use Rattle.document_parts.specs.DocumentParts.{numbered_module}
use Rattle.accepted_laws.proofs.ListTerms.{SayOne, identifiers_say, lists_say}
use Rattle.accepted_laws.proofs.TypeTerms.{types_say}
use Rattle.accepted_laws.proofs.ValueTerms.{value_arcs_say, value_numbers_say}

-- what is imported
identifier_lists_say : SayOne (OptionsAgree IdentifiersAgree) identifier_list
identifier_lists_say None None a = refl
identifier_lists_say None (Some _) a = absurd a
identifier_lists_say (Some _) None a = absurd a
identifier_lists_say (Some x) (Some y) a = let same = identifiers_say x y a in λ i. same i ∷ []

symbols_say : SayOne SymbolsAgree import_term
symbols_say x y a =
    let symbols = a.0 in
    let names = a.1 in
    λ i. record { symbols = symbols i; module_name = names i }

imports_say : SayOne (OptionsAgree ImportsAgree) import_terms
imports_say None None a = refl
imports_say None (Some _) a = absurd a
imports_say (Some _) None a = absurd a
imports_say (Some x) (Some y) a =
    let firsts = symbols_say x.first y.first a.0 in
    let others = lists_say SymbolsAgree import_term symbols_say x.others.items y.others.items a.1 in
    λ i. firsts i ∷ others i

identifiers_behind : (xs ys : List ImportedSymbols) → ListsAgree SymbolsAgree xs ys →
    flat_map (λ x. identifier_list x.identifier) xs ≡ flat_map (λ y. identifier_list y.identifier) ys
identifiers_behind [] [] a = refl
identifiers_behind [] (y ∷ ys) a = absurd a
identifiers_behind (x ∷ xs) [] a = absurd a
identifiers_behind (x ∷ xs) (y ∷ ys) a =
    let first = identifier_lists_say x.identifier y.identifier a.0.2 in
    let others = identifiers_behind xs ys a.1 in
    λ i. first i ++ others i

imported_say : SayOne (OptionsAgree ImportsAgree) imported_identifiers
imported_say None None a = refl
imported_say None (Some _) a = absurd a
imported_say (Some _) None a = absurd a
imported_say (Some x) (Some y) a =
    let firsts = identifier_lists_say x.first.identifier y.first.identifier a.0.2 in
    let others = identifiers_behind x.others.items y.others.items a.1 in
    λ i. firsts i ++ others i

-- what is assigned
assigned_say : SayOne AssignedAgree assigned_term
assigned_say (OfType x) (OfType y) a = let types = types_say x y a in λ i. AssignsType (types i)
assigned_say (OfType _) (OfValue _ _) a = absurd a
assigned_say (OfValue _ _) (OfType _) a = absurd a
assigned_say (OfValue of x) (OfValue other y) a =
    let types = types_say of other a.0 in
    let numbers = value_numbers_say x y a.1 in
    let trees = values_alike x y a.1 in
    λ i. AssignsValue (types i) (numbers i) (trees i)

assignments_say : SayOne AssignmentsAgree assignment_term
assignments_say x y a =
    let names = a.0 in
    let assigned = assigned_say x.assigned y.assigned a.1 in
    λ i. record { name = names i; assigned = assigned i }

arcs_say : SayOne AssignedAgree assigned_arcs
arcs_say (OfType _) (OfType _) a = refl
arcs_say (OfType _) (OfValue _ _) a = absurd a
arcs_say (OfValue _ _) (OfType _) a = absurd a
arcs_say (OfValue _ x) (OfValue _ y) a = value_arcs_say x y a.1

pub modules_say : (n : ℕ) → SayOne ModulesAgree (λ x. module_part (numbered_module n x))
modules_say n x y a =
    let names = a.1 in
    let identifiers = identifier_lists_say x.identifier y.identifier a.2 in
    let modes = a.3 in
    let imports = imports_say x.imports y.imports a.5 in
    let imported = imported_say x.imports y.imports a.5 in
    let assignments =
    lists_say AssignmentsAgree assignment_term assignments_say x.assignments.items y.assignments.items a.6 in
    let arcs = lists_say AssignmentsAgree (λ z. assigned_arcs z.assigned) (λ z w b. arcs_say z.assigned w.assigned b.1)
    x.assignments.items y.assignments.items a.6 in
    λ i. record {
      text = record {
        document = n;
        name = names i;
        is_implicit = has_implicit_tags (modes i);
        imports = imports i;
        assignments = assignments i;
      };
      identifiers = identifiers i ++ imported i;
      arcs = arcs i;
    }
