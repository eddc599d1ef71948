-- ValueArcs: in a module that tokens spell the arcs that values state in digits are numbers of 64 bits.
use Rattle.std.proofs.Common.{◌≡◌, ℕ, List, [], ◌∷◌, Option, None, map}
use Rattle.std.specs.List.{AllByRecursion}
use Rattle.std.specs.Prelude.{All, is_none, if◌then◌else◌, Bool, true, false}
use Rattle.std.proofs.lemmas.List.Elements.{All-cons, All-head, All-nil, All-tail}
use Rattle.token_grammar.specs.Form.{Empty, Named, Or}
use Rattle.token_grammar.specs.Kinds.{number_kind}
use Rattle.token_grammar.specs.declared.token.Token.{Token}
use Rattle.asn1_values_syntax.specs.Asn1.{asn1, assignment, type_assignment, value_assignment}
use Rattle.asn1_values_syntax.specs.NumberTrees.{sure_arcs_tree}
use Rattle.asn1_values_syntax.specs.ValueForms.{braces_content, modules, part, sure_arcs, values}
use Rattle.asn1_values_syntax.specs.ValueTrees.{content_tree, part_tree, row_tree, value_tree}
use Rattle.asn1_values_syntax.specs.declared.arcs.SureArcs.{SureArcs}
use Rattle.asn1_values_syntax.specs.declared.arcs.SureArcs.TheVariants.{Number as SureNumber, Named as SureNamed}
use Rattle.asn1_values_syntax.specs.declared.numbers.SignedNumber.{SignedNumber}
use Rattle.asn1_values_syntax.specs.declared.value.BracesText.{BracesText, Row_of-ValuePart, end_of-ValuePart}
use Rattle.asn1_values_syntax.specs.declared.value.BracesText.{more_of-ValuePart}
use Rattle.asn1_values_syntax.specs.declared.value.BracesText.TheVariants.{Nothing, Parts', Arcs, NamedArcs}
use Rattle.asn1_values_syntax.specs.declared.value.NamedValue.TheVariants.{Name, Choice'}
use Rattle.asn1_values_syntax.specs.declared.value.ValuePart.{ValuePart}
use Rattle.asn1_values_syntax.specs.declared.value.ValuePart.TheVariants.{Named as NamedPart, Unnamed}
use Rattle.asn1_values_syntax.specs.declared.value.ValueText.{ValueText}
use Rattle.asn1_values_syntax.specs.declared.value.ValueText.TheVariants.{Literal, Number, Named as NamedText, Braces}
use Rattle.asn1_syntax.specs.declared.module.Assigned.{Assigned}
use Rattle.asn1_syntax.specs.declared.module.Assigned.TheVariants.{OfType, OfValue}
use Rattle.asn1_syntax.specs.declared.module.Assignment.{Assignment}
use Rattle.asn1_syntax.specs.declared.module.Module.{Module}
use Rattle.asn1_syntax.specs.ModuleTrees.{assigned_tree, assignment_tree, module_tree}
use Rattle.document_parts.specs.DocumentParts.{numbered_module}
use Rattle.gdmo_first_names.specs.ReadModules.{IsWhole}
use Rattle.gdmo_names.specs.ArcViews.{braces_arcs, of_numbers, part_arcs}
use Rattle.gdmo_names.specs.ArcViews.{row_arcs, sure_numbers, value_arcs}
use Rattle.gdmo_names.specs.MemberViews.{arc_number}
use Rattle.gdmo_names.specs.PartTerms.{ModulePart}
use Rattle.gdmo_names.specs.PartViews.{assigned_arcs, module_part}
use Rattle.gdmo_names.specs.TemplateTerms.{IdentifierTerm}
use Rattle.arc_laws.proofs.Identifiers.{WholeOption, arc_whole, arcs_whole, number_whole}
use Rattle.arc_laws.proofs.Saying.{ListSaid, Spelt, each_said, either_said, listed_said, many_said, named_said}
use Rattle.arc_laws.proofs.Saying.{pair_said}

whole_numbers : (brace : Token) (xs : List Token) → All IsWhole xs → WholeOption (of_numbers brace xs)
whole_numbers brace [] all = tt
whole_numbers brace (x ∷ xs) all = (All-head IsWhole x xs all, All-tail IsWhole x xs all)

where_so : (b : Bool) (x : Option IdentifierTerm) → WholeOption x → WholeOption (if b then x else None)
where_so true x whole = whole
where_so false x whole = tt

-- the arcs of each assignment of a module
pub HasWholeValues : ModulePart → Type 0
HasWholeValues x = All WholeOption x.arcs

pub values_of : (x : ModulePart) → HasWholeValues x → All WholeOption x.arcs
unfolding HasWholeValues
values_of x whole = whole

module _ (tokens : List Token) (whole : All (λ x. x.kind ≡ number_kind → IsWhole x) tokens) where
  sure_whole : (x : SureArcs) → Spelt tokens asn1 sure_arcs (sure_arcs_tree x) → All IsWhole (sure_numbers x)
  sure_whole (SureNumber first second others) said =
      let parts = pair_said tokens asn1 (either_said tokens asn1 said) in
      let behind = pair_said tokens asn1 parts.1 in
      All-cons IsWhole first (arc_number second ∷ map arc_number others.items)
      (number_whole tokens asn1 whole parts.0)
      (All-cons IsWhole (arc_number second) (map arc_number others.items) (arc_whole tokens asn1 whole second behind.0)
      (arcs_whole tokens asn1 whole others.items (many_said tokens asn1 behind.1)))
  sure_whole (SureNamed first others) said =
      let parts = pair_said tokens asn1 (either_said tokens asn1 said) in
      let behind = pair_said tokens asn1 (pair_said tokens asn1 (pair_said tokens asn1 parts.0).1).1 in
      All-cons IsWhole first.number (map arc_number others.items) (number_whole tokens asn1 whole behind.0)
      (arcs_whole tokens asn1 whole others.items (many_said tokens asn1 parts.1))

  signed_whole : (x : SignedNumber) → Spelt tokens asn1 (Named values) (value_tree (Number x)) → IsWhole x.number
  signed_whole x said = number_whole tokens asn1 whole (pair_said tokens asn1
      (either_said tokens asn1 (either_said tokens asn1 (named_said tokens asn1 said)))).1

  part_whole : (brace : Token) (x : ValuePart) → Spelt tokens asn1 part (part_tree x) → WholeOption (part_arcs brace x)
  part_whole brace (Unnamed (Number number)) said = where_so (is_none number.minus) _
      (signed_whole number (either_said tokens asn1 said), All-nil IsWhole)
  part_whole brace (Unnamed (NamedText (Name name))) said = (tt, All-nil IsWhole)
  part_whole brace (Unnamed (NamedText (Choice' name place value))) said = tt
  part_whole brace (Unnamed (Literal literal)) said = tt
  part_whole brace (Unnamed (Braces inner content)) said = tt
  part_whole brace (NamedPart name (Number number)) said = where_so (is_none number.minus) _ (
    tt,
    All-cons IsWhole number.number []
        (signed_whole number (pair_said tokens asn1 (either_said tokens asn1 said)).1) (All-nil IsWhole),
  )
  part_whole brace (NamedPart name (NamedText value)) said = tt
  part_whole brace (NamedPart name (Literal literal)) said = tt
  part_whole brace (NamedPart name (Braces inner content)) said = tt

  row_whole : {n : _} (brace : Token) (row : Row_of-ValuePart n) → ListSaid tokens asn1 part (row_tree Empty row) →
      WholeOption (row_arcs brace row)
  row_whole brace end_of-ValuePart said = tt
  row_whole brace (more_of-ValuePart one end_of-ValuePart) said = part_whole brace one said.1
  row_whole brace (more_of-ValuePart one (more_of-ValuePart other others)) said = tt

  content_whole : (brace : Token) (x : BracesText) → Spelt tokens asn1 braces_content (content_tree x) →
      WholeOption (braces_arcs brace x)
  content_whole brace Nothing said = tt
  content_whole brace (Parts' shape row) said = row_whole brace row (listed_said tokens asn1
      (pair_said tokens asn1 (either_said tokens asn1 (either_said tokens asn1 said))).0)
  content_whole brace (Arcs arcs) said = whole_numbers brace (sure_numbers arcs.value) (sure_whole arcs.value
      (pair_said tokens asn1 (either_said tokens asn1 (either_said tokens asn1 (either_said tokens asn1 said)))).0)
  content_whole brace (NamedArcs first others) said = (
    tt,
    sure_whole others.value (pair_said tokens asn1
        (pair_said tokens asn1
        (either_said tokens asn1 (either_said tokens asn1 (either_said tokens asn1 said)))).1).0,
  )

  value_whole : (x : ValueText) → Spelt tokens asn1 (Named values) (value_tree x) → WholeOption (value_arcs x)
  value_whole (Literal literal) said = tt
  value_whole (Number number) said = tt
  value_whole (NamedText value) said = tt
  value_whole (Braces brace content) said = content_whole brace content (pair_said tokens asn1
      (either_said tokens asn1 (either_said tokens asn1 (either_said tokens asn1 (named_said tokens asn1 said))))).1

  assigned_whole : (x : Assigned) → Spelt tokens asn1 (Or type_assignment value_assignment) (assigned_tree x) →
      WholeOption (assigned_arcs x)
  assigned_whole (OfType of) said = tt
  assigned_whole (OfValue of value) said = value_whole value (pair_said tokens asn1
      (pair_said tokens asn1 (either_said tokens asn1 said)).1).1

  joined : (xs : List Assignment) → AllByRecursion (λ (x : Assignment). WholeOption (assigned_arcs x.assigned)) xs →
      All WholeOption (map (λ (x : Assignment). assigned_arcs x.assigned) xs)
  joined [] all = All-nil WholeOption
  joined (x ∷ xs) all = All-cons WholeOption (assigned_arcs x.assigned)
      (map (λ (x : Assignment). assigned_arcs x.assigned) xs) all.0 (joined xs all.1)

  pub module_whole : (n : ℕ) (x : Module) → Spelt tokens asn1 (Named modules) (module_tree x) →
      HasWholeValues (module_part (numbered_module n x))
  unfolding HasWholeValues
  module_whole n x said =
      let behind = pair_said tokens asn1 (pair_said tokens asn1 (pair_said tokens asn1
      (pair_said tokens asn1 (named_said tokens asn1 said)).1).1).1 in
      joined x.assignments.items (each_said tokens asn1 assignment assignment_tree
      (λ x. WholeOption (assigned_arcs x.assigned)) Empty x.assignments.items
      (λ x one. assigned_whole x.assigned (pair_said tokens asn1 one).1) (many_said tokens asn1 behind.0)).1
