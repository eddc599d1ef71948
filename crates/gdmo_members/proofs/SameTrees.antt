-- Values that agree have one tree: the parts of templates, and attribute and parameter templates.
use Rattle.std.proofs.Common.{◌≡◌, refl, ap}
use Rattle.token_grammar.specs.Form.{Tree, Bare, Leaf, Pair, First, Second, Present, Empty, After}
use Rattle.token_grammar.specs.Parts.{optional_tree, list_tree, label_reference_tree, qualified_name_tree, vector_tree}
use Rattle.token_grammar.specs.PartLaws.{OneTreeBy, OptionsAgree, IdentifiersAgree}
use Rattle.token_grammar.proofs.Values.{lists_alike, options_alike, identifiers_alike}
use Rattle.gdmo_members.specs.declared.attribute.AttributeTemplate.{Row_of-ParameterReference}
use Rattle.gdmo_members.specs.declared.attribute.AttributeTemplate.{end_of-ParameterReference}
use Rattle.gdmo_members.specs.declared.attribute.AttributeTemplate.{more_of-ParameterReference}
use Rattle.gdmo_members.specs.declared.attribute.AttributeTemplate.{Held-AttributeTemplate-parameters, None', Some'}
use Rattle.gdmo_members.specs.declared.attribute.AttributeSyntax.{AttributeSyntax}
use Rattle.gdmo_members.specs.declared.attribute.AttributeSyntax.TheVariants.{TypeReference as AType, Derived}
use Rattle.gdmo_members.specs.declared.attribute.AttributeReference.{AttributeReference}
use Rattle.gdmo_members.specs.declared.attribute.AttributeReference.TheVariants.{Label as ALabel}
use Rattle.gdmo_members.specs.declared.attribute.AttributeReference.TheVariants.{Template' as ATemplate}
use Rattle.gdmo_members.specs.declared.parameter.ParameterSyntax.{ParameterSyntax}
use Rattle.gdmo_members.specs.declared.parameter.ParameterSyntax.TheVariants.{TypeReference as PType}
use Rattle.gdmo_members.specs.declared.parameter.ParameterSyntax.TheVariants.{Attribute as OfAttribute}
use Rattle.gdmo_members.specs.declared.parameter.ParameterReference.{ParameterReference}
use Rattle.gdmo_members.specs.declared.parameter.ParameterReference.TheVariants.{Label as PLabel}
use Rattle.gdmo_members.specs.declared.parameter.ParameterReference.TheVariants.{Template' as PTemplate}
use Rattle.gdmo_members.specs.Trees.{clause_tree, behaviour_reference_tree, registration_tree, ending_tree}
use Rattle.gdmo_members.specs.Trees.{registered_ending_tree, context_word_tree, context_tree}
use Rattle.gdmo_members.specs.MemberTrees.{rules_tree, behaviours_tree, template_tree, attribute_tree}
use Rattle.gdmo_members.specs.MemberTrees.{attribute_syntax_tree, attribute_reference_tree, parameter_tree}
use Rattle.gdmo_members.specs.MemberTrees.{parameter_syntax_tree, parameter_reference_tree, parameters_tree, row_tree}
use Rattle.gdmo_members.specs.MemberTrees.{held_tree}
use Rattle.gdmo_members.specs.Agreement.{VectorsEqual, VectorsAgree, ContextsAgree, AttributesAgree}
use Rattle.gdmo_members.specs.Agreement.{AttributeSyntaxesAgree, AttributeReferencesAgree, ParametersAgree}
use Rattle.gdmo_members.specs.Agreement.{ParameterSyntaxesAgree, ParameterReferencesAgree, RowsAgree, HeldAgree}

equal_vectors : {X : Type 0} (view : X → Tree) → OneTreeBy VectorsEqual (vector_tree view)
equal_vectors view x y a = ap (list_tree view Empty) a

pub vectors_alike : {X : Type 0} (agree : X → X → Type 0) (view : X → Tree) → OneTreeBy agree view
    → OneTreeBy (VectorsAgree agree) (vector_tree view)
vectors_alike agree view same x y a = lists_alike agree view same x.items y.items Empty Empty refl a

pub clauses_alike : {X : Type 0} (agree : X → X → Type 0) (view : X → Tree) → OneTreeBy agree view
    → OneTreeBy agree (clause_tree view)
clauses_alike agree view same x y a = let part = same x y a in λ i. Pair Bare (Pair (part i) Bare)

-- an optional clause
pub optional_clause : {X : Type 0} (agree : X → X → Type 0) (view : X → Tree) → OneTreeBy agree view
    → OneTreeBy (OptionsAgree agree) (optional_tree (clause_tree view))
optional_clause agree view same = options_alike agree (clause_tree view) (clauses_alike agree view same)

rules_alike : OneTreeBy (OptionsAgree VectorsEqual) rules_tree
rules_alike = optional_clause VectorsEqual (vector_tree Leaf) (equal_vectors Leaf)

pub behaviours_alike : OneTreeBy (OptionsAgree VectorsEqual) behaviours_tree
behaviours_alike = optional_clause VectorsEqual (vector_tree behaviour_reference_tree)
    (equal_vectors behaviour_reference_tree)

registrations_alike : OneTreeBy IdentifiersAgree registration_tree
registrations_alike x y a = ap (Pair Bare) (identifiers_alike x y a)

endings_alike : OneTreeBy (OptionsAgree IdentifiersAgree) ending_tree
endings_alike x y a = ap (λ (t : Tree). Pair t Bare)
    (options_alike IdentifiersAgree registration_tree registrations_alike x y a)

pub registered_endings_alike : OneTreeBy IdentifiersAgree registered_ending_tree
registered_endings_alike x y a = ap (λ (t : Tree). Pair t Bare) (registrations_alike x y a)

contexts_alike : OneTreeBy ContextsAgree context_tree
contexts_alike x y a =
    let first = a.0 in
    let others = a.1 in
    λ i. Pair (Leaf (first i)) (list_tree context_word_tree Empty (others i))

mutual
  pub syntaxes_alike : (x y : AttributeSyntax) → AttributeSyntaxesAgree x y
      → attribute_syntax_tree x ≡ attribute_syntax_tree y
  syntaxes_alike (AType x) (AType y) a = λ i. First (clause_tree qualified_name_tree (a i))
  syntaxes_alike (AType x) (Derived y) a = absurd a
  syntaxes_alike (Derived x) (AType y) a = absurd a
  syntaxes_alike (Derived x) (Derived y) a =
      ap (λ (t : Tree). Second (Pair Bare (Pair t Bare))) (references_alike x y a)

  pub references_alike : (x y : AttributeReference) → AttributeReferencesAgree x y
      → attribute_reference_tree x ≡ attribute_reference_tree y
  references_alike (ALabel x) (ALabel y) a = λ i. First (label_reference_tree (a i))
  references_alike (ALabel x) (ATemplate _ _ _ _ _ _ _ _) a = absurd a
  references_alike (ATemplate _ _ _ _ _ _ _ _) (ALabel y) a = absurd a
  references_alike (ATemplate _ document label syntax rules behaviour parameters registration)
      (ATemplate _ document' label' syntax' rules' behaviour' parameters' registration') a =
      let numbers = a.0 in
      let labels = a.1 in
      let syntaxes = syntaxes_alike syntax syntax' a.2 in
      let matching = rules_alike rules rules' a.3 in
      let behaviours = behaviours_alike behaviour behaviour' a.4 in
      let held = held_alike parameters parameters' a.5 in
      let endings = endings_alike registration registration' a.6 in
      λ i. Second (template_tree (numbers i) (labels i)
      (Pair (Present (syntaxes i)) (Pair (matching i) (Pair (behaviours i) (Pair (held i) Bare)))) (endings i))

  pub parameter_syntaxes_alike : (x y : ParameterSyntax) → ParameterSyntaxesAgree x y
      → parameter_syntax_tree x ≡ parameter_syntax_tree y
  parameter_syntaxes_alike (PType x) (PType y) a = λ i. First (clause_tree qualified_name_tree (a i))
  parameter_syntaxes_alike (PType x) (OfAttribute y) a = absurd a
  parameter_syntaxes_alike (OfAttribute x) (PType y) a = absurd a
  parameter_syntaxes_alike (OfAttribute x) (OfAttribute y) a =
      ap (λ (t : Tree). Second (Pair Bare (Pair t Bare))) (references_alike x y a)

  pub parameter_references_alike : (x y : ParameterReference) → ParameterReferencesAgree x y
      → parameter_reference_tree x ≡ parameter_reference_tree y
  parameter_references_alike (PLabel x) (PLabel y) a = λ i. First (label_reference_tree (a i))
  parameter_references_alike (PLabel x) (PTemplate _ _ _ _ _ _ _) a = absurd a
  parameter_references_alike (PTemplate _ _ _ _ _ _ _) (PLabel y) a = absurd a
  parameter_references_alike (PTemplate _ document label context syntax behaviour registration)
      (PTemplate _ document' label' context' syntax' behaviour' registration') a =
      let numbers = a.0 in
      let labels = a.1 in
      let contexts = contexts_alike context context' a.2 in
      let syntaxes = parameter_syntaxes_alike syntax syntax' a.3 in
      let behaviours = behaviours_alike behaviour behaviour' a.4 in
      let endings = endings_alike registration registration' a.5 in
      λ i. Second (template_tree (numbers i) (labels i)
      (Pair (Present (Pair Bare (Pair (contexts i) Bare)))
      (Pair (Present (syntaxes i)) (Pair (behaviours i) Bare))) (endings i))

  rows_alike : {n m : _} (x : Row_of-ParameterReference n) (y : Row_of-ParameterReference m) (before other : Tree)
      → before ≡ other → RowsAgree x y → row_tree before x ≡ row_tree other y
  rows_alike end_of-ParameterReference end_of-ParameterReference before other e a = e
  rows_alike end_of-ParameterReference (more_of-ParameterReference y ys) before other e a = absurd a
  rows_alike (more_of-ParameterReference x xs) end_of-ParameterReference before other e a = absurd a
  rows_alike (more_of-ParameterReference x xs) (more_of-ParameterReference y ys) before other e a =
      let last = parameter_references_alike x y a.0 in
      rows_alike xs ys (After before (parameter_reference_tree x)) (After other (parameter_reference_tree y))
      (λ i. After (e i) (last i)) a.1

  pub held_alike : (x y : Held-AttributeTemplate-parameters) → HeldAgree x y → held_tree x ≡ held_tree y
  held_alike None' None' a = refl
  held_alike None' (Some' _ _) a = absurd a
  held_alike (Some' _ _) None' a = absurd a
  held_alike (Some' _ row) (Some' _ row') a =
      ap (λ (t : Tree). Present (Pair Bare (Pair t Bare))) (rows_alike row row' Empty Empty refl a)

pub parameters_alike : OneTreeBy (OptionsAgree (VectorsAgree ParameterReferencesAgree)) parameters_tree
parameters_alike = optional_clause (VectorsAgree ParameterReferencesAgree) (vector_tree parameter_reference_tree)
    (vectors_alike ParameterReferencesAgree parameter_reference_tree parameter_references_alike)

pub attributes_alike : OneTreeBy AttributesAgree attribute_tree
attributes_alike x y a =
    let numbers = a.0 in
    let labels = a.1 in
    let syntaxes = syntaxes_alike x.syntax y.syntax a.2 in
    let matching = rules_alike x.rules y.rules a.3 in
    let behaviours = behaviours_alike x.behaviour y.behaviour a.4 in
    let parameters = parameters_alike x.parameters y.parameters a.5 in
    let endings = endings_alike x.registration y.registration a.6 in
    λ i. template_tree (numbers i) (labels i)
    (Pair (Present (syntaxes i)) (Pair (matching i) (Pair (behaviours i) (Pair (parameters i) Bare)))) (endings i)

pub parameter_templates_alike : OneTreeBy ParametersAgree parameter_tree
parameter_templates_alike x y a =
    let numbers = a.0 in
    let labels = a.1 in
    let contexts = contexts_alike x.context y.context a.2 in
    let syntaxes = parameter_syntaxes_alike x.syntax y.syntax a.3 in
    let behaviours = behaviours_alike x.behaviour y.behaviour a.4 in
    let endings = endings_alike x.registration y.registration a.5 in
    λ i. template_tree (numbers i) (labels i)
    (Pair (Present (Pair Bare (Pair (contexts i) Bare)))
    (Pair (Present (syntaxes i)) (Pair (behaviours i) Bare))) (endings i)
