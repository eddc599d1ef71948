-- FieldLaws: a field isn't a component of the attribute's type exactly where the types that are compared are other
-- ones, and the fields of a notification alone stand in the role of a field's attribute.
use Rattle.std.proofs.Common.{◌≡◌, ◌≢◌, ◌↔◌, ◌∙◌, ◌∷◌, ◌++◌, [], ℕ, List}
use Rattle.std.proofs.Common.{Option, None, Some, ap, inl, inr, map, refl, sym}
use Rattle.std.specs.Prelude.{OnOk, Result, Ok, Err, option_map, slice_get}
use Rattle.std.proofs.Math.Path.{subst}
use Rattle.std.proofs.lemmas.Option.{slice_get-map}
use Rattle.token_grammar.specs.declared.qualified_name.QualifiedName.{QualifiedName}
use Rattle.asn1_names.specs.ModuleTerms.{ModuleTerm}
use Rattle.asn1_names.specs.NodeCount.{IsNoType}
use Rattle.gdmo_members.specs.declared.notification.Field.{Field as FieldText}
use Rattle.key_numbers.specs.ComponentKeys.{component_key}
use Rattle.key_numbers.specs.KeyNumbers.{IsKeyNumber}
use Rattle.key_numbers.specs.NumberedLists.{AreOnce, Grows, Row}
use Rattle.key_numbers.specs.TypeKeys.{TypeKey, key_syntax}
use Rattle.key_numbers.proofs.KeyLaws.{key_law}
use Rattle.type_numbers.specs.AskedTypes.{AreNumbers, StayNumbers}
use Rattle.type_numbers.specs.MeaningKeys.{IsKeyOf}
use Rattle.type_numbers.specs.declared.numbered_types.TypeNumbers.{TypeNumbers}
use Rattle.type_numbers.proofs.AskedLaws.{number_stays}
use Rattle.type_numbers.proofs.MeaningLaws.{one_meant_syntax}
use Rattle.gdmo_names.specs.AttributeSyntaxes.{HasUnknownSyntax, IsComponentOf, component_called}
use Rattle.gdmo_names.specs.FaultSets.{AnyOf, Notes, OneFault}
use Rattle.gdmo_names.specs.FirstLabelFault.{LabelFault}
use Rattle.gdmo_names.specs.FirstLabelFault.LabelFault.{KindWrong}
use Rattle.gdmo_names.specs.InStep.{AreEach}
use Rattle.gdmo_names.specs.LabelMeaning.{Means}
use Rattle.gdmo_names.specs.MemberViews.{attribute_reference, field_terms}
use Rattle.gdmo_names.specs.Mentions.{Role, Mention, body_mentions, field_mentions, mentions}
use Rattle.gdmo_names.specs.Mentions.Role.{FieldAttribute, OfBehaviour, OfParameter}
use Rattle.gdmo_names.specs.PartTerms.{Placed, PartTerms, kind_of, module_terms_of}
use Rattle.gdmo_names.specs.TemplateTerms.{BodyTerm, ReferenceTerms}
use Rattle.gdmo_names.specs.TemplateTerms.ReferenceTerms.{NoReferences, Reference}
use Rattle.gdmo_names.specs.TemplateTerms.TemplateKind.{AttributeKind}
use Rattle.gdmo_names.specs.TypeMeaning.{qualified_meaning}
use Rattle.gdmo_names.specs.declared.first_fault.LabelFault.{LabelFault as NotedFault}
use Rattle.gdmo_names.specs.declared.found.Found.{Found}
use Rattle.gdmo_names.proofs.NotingLaws.{none_noted, noted_by, one_not}
use Rattle.gdmo_types.specs.ComparedTypes.{AreOther, NumbersName, TellsAttribute}
use Rattle.gdmo_types.specs.FieldFaults.{AreFieldsOf, FieldFault, TellsPart, field_mention}
use Rattle.gdmo_types.specs.RoleTargets.{AreInRole, MeansNumber}
use Rattle.gdmo_types.specs.RoleTargets.AreInRole.{no_more, one, other}
use Rattle.gdmo_types.specs.declared.compared_types.ComparedType.{ComparedType}
use Rattle.gdmo_types.specs.declared.compared_types.ComparedType.TheVariants.{Missing, Nothing, Number}
use Rattle.gdmo_types.proofs.ComparedLaws.{is_known, missing_attribute, named_syntax}
use Rattle.gdmo_types.proofs.ComponentLaws.{component_compared, no_component}
use Rattle.gdmo_types.proofs.RoleLaws.{one_meant}
use Rattle.gdmo_types.proofs.StepLaws.{beside}

-- ---- numbers that stay

pub stay_same : (ms : List ModuleTerm) (numbers : TypeNumbers) → AreNumbers ms numbers → StayNumbers ms numbers numbers
stay_same ms numbers are = record { are_numbers = are; grows = λ k x at. at }

pub stay_through : (ms : List ModuleTerm) (before between after : TypeNumbers) → StayNumbers ms before between →
    StayNumbers ms between after → StayNumbers ms before after
stay_through ms before between after early late = record {
  are_numbers = late.are_numbers;
  grows = λ k x at. late.grows k x (early.grows k x at);
}

pub attribute_stays : (parts : PartTerms) (before after : Row) (x : Placed) (type : ComparedType) → Grows before after →
    TellsAttribute parts before x type → TellsAttribute parts after x type
attribute_stays parts before after x Missing grows told = told
attribute_stays parts before after x Nothing grows told = told
attribute_stays parts before after x (Number n) grows told = record {
  name = told.name;
  of_type = told.of_type;
  numbered = number_stays (module_terms_of parts) before after
      (qualified_meaning (module_terms_of parts) told.name) n grows told.numbered;
}

-- ---- a component of the attribute's type

none_called : (parts : PartTerms) (information : QualifiedName) (name : List ℕ) (x : Placed) (whole : TypeKey) →
    IsKeyOf (module_terms_of parts) (qualified_meaning (module_terms_of parts) information) whole →
    component_key name whole ≡ None → IsComponentOf parts information name x → ⊥
none_called parts information name x whole h gone of =
    let same : component_called name (key_syntax whole) ≡ component_called name of.whole =
    ap (component_called name) (one_meant_syntax h.syntax (named_syntax of.is)) in
    let e = sym (no_component name whole gone) ∙ (same ∙ of.component) in absurd (cc)

abbrev IsOtherPart : PartTerms → QualifiedName → List ℕ → Placed → Type 0
IsOtherPart parts information name x = (¬ HasUnknownSyntax parts x) × (¬ IsComponentOf parts information name x)

pub other_part : (parts : PartTerms) (row : Row) (information : QualifiedName) (name : List ℕ) (x : Placed)
    (whole : TypeKey) (own component : ComparedType) → AreOnce row → kind_of x.template ≡ AttributeKind →
    IsKeyOf (module_terms_of parts) (qualified_meaning (module_terms_of parts) information) whole →
    TellsAttribute parts row x own → TellsPart row (component_key name whole) component →
    AreOther own component ↔ IsOtherPart parts information name x
other_part parts row information name x whole own Missing once is h its told = absurd told
other_part parts row information name x whole Missing Nothing once is h its told = (
  λ none. absurd none,
  λ g. absurd (missing_attribute parts x is its g.0),
)
other_part parts row information name x whole Missing (Number k) once is h its told = (
  λ none. absurd none,
  λ g. absurd (missing_attribute parts x is its g.0),
)
other_part parts row information name x whole Nothing Nothing once is h its told = (
  λ g. (its.known, λ of. its.no_type of.own of.of_type),
  λ g. tt,
)
other_part parts row information name x whole Nothing (Number k) once is h its told = (
  λ g. (its.known, λ of. its.no_type of.own of.of_type),
  λ g. tt,
)
other_part parts row information name x whole (Number n) Nothing once is h its told = (
  λ g. (
    is_known its.of_type its.numbered.is_key.is_type,
    λ of. none_called parts information name x whole h told of,
  ),
  λ g. tt,
)
other_part parts row information name x whole (Number n) (Number k) once is h its told =
    let law = key_law its.numbered.key told.0 once its.numbered.numbered told.2 in
    let same = component_compared parts information its.name x name whole told.0 its.numbered.key h told.1 its.of_type
    its.numbered.is_key in (
      λ apart. (
        is_known its.of_type its.numbered.is_key.is_type,
        λ of. apart (law.1 (sym (same.1 of))),
      ),
      λ g e. g.1 (same.0 (sym (law.0 e))),
    )

-- what is noted of a field that names an attribute
pub field_noted : (parts : PartTerms) (before after : Row) (document : ℕ) (information : QualifiedName)
    (field : FieldText) (x : Placed) (n : ℕ) (own component : ComparedType) {first next : Option NotedFault} →
    AreOnce after → Grows before after → NumbersName parts before information n →
    Means parts document FieldAttribute (attribute_reference field.attribute) x → TellsAttribute parts before x own →
    ((key : TypeKey) → IsKeyNumber before key n → TellsPart after (component_key field.name.text key) component) →
    Notes (OneFault (AreOther own component) KindWrong document field.name.at) first next →
    Notes (FieldFault parts document information field) first next
field_noted parts before after document information field x n own component once grows numbered means told part noted =
    let law = other_part parts after information field.name.text x numbered.key own component once means.of_kind
    numbered.is_key (attribute_stays parts before after x own grows told) (part numbered.key numbered.numbered) in
    noted_by (OneFault (AreOther own component) KindWrong document field.name.at)
    (FieldFault parts document information field)
    (λ k d t fault. (
      (let both = law.0 fault.0 in record {
        known_type = numbered.is_key.is_type;
        attribute = x;
        means = means;
        known = both.0;
        other = both.1;
      }),
      fault.1,
      fault.2,
      fault.3,
    ))
    (λ k d t fault.
    let it = fault.0 in
    let same = one_meant parts document FieldAttribute (attribute_reference field.attribute) it.attribute x it.means
    means in (
      law.1 (
        subst (λ y. ¬ HasUnknownSyntax parts y) same it.known,
        subst (λ y. ¬ IsComponentOf parts information field.name.text y) same it.other,
      ),
      fault.1,
      fault.2,
      fault.3,
    )) noted

-- and of one that names none
pub lost_noted : (parts : PartTerms) (xs : List Found) (document : ℕ) (information : QualifiedName) (field : FieldText)
    (before : Option NotedFault) → MeansNumber parts xs document (field_mention field) None →
    Notes (FieldFault parts document information field) before before
lost_noted parts xs document information field before lost =
    one_not KindWrong document field.name.at before (λ it. lost it.attribute it.means)

-- where the information is of no type, nothing is noted
pub no_type_noted : (parts : PartTerms) (document : ℕ) (information : QualifiedName) (fields : List FieldText)
    (before : Option NotedFault) → IsNoType (qualified_meaning (module_terms_of parts) information) →
    Notes (AnyOf (FieldFault parts document information) fields) before before
no_type_noted parts document information fields before none =
    none_noted (AnyOf (FieldFault parts document information) fields) before (by fields)
  where
    by : (xs : List FieldText) (k : LabelFault) (d t : ℕ) →
        ¬ AnyOf (FieldFault parts document information) xs k d t
    by [] k d t fault = fault
    by (x ∷ xs) k d t (inl here) = here.0.known_type none
    by (x ∷ xs) k d t (inr behind) = by xs k d t behind

-- ---- the fields alone name attributes of fields

left_behind : {Is : Mention → Option ℕ → Type 0} {role : Role} {x : Mention} {xs : List Mention}
    {numbers : List (Option ℕ)} → AreInRole Is role (x ∷ xs) numbers → x.role ≢ role → AreInRole Is role xs numbers
left_behind (one same is rest) apart = absurd (apart same)
left_behind (other its rest) apart = rest

past_row : {Is : Mention → Option ℕ → Type 0} {role : Role} (its : Role) (xs : ReferenceTerms) (ys : List Mention)
    {numbers : List (Option ℕ)} → its ≢ role → AreInRole Is role (mentions its xs ++ ys) numbers →
    AreInRole Is role ys numbers
past_row its NoReferences ys apart are = are
past_row its (Reference x xs) ys apart are = past_row its xs ys apart (left_behind are apart)

each_field : {Is : Mention → Option ℕ → Type 0} (fields : List FieldText) {numbers : List (Option ℕ)} →
    AreInRole Is FieldAttribute (field_mentions (field_terms fields)) numbers →
    AreEach Is (map field_mention fields) numbers
each_field [] no_more = tt
each_field (x ∷ xs) (one same is rest) = (is, each_field xs rest)
each_field (x ∷ xs) (other its rest) = absurd (its refl)

no_behaviour : OfBehaviour ≢ FieldAttribute
no_behaviour h = absurd (cc)

no_parameter : OfParameter ≢ FieldAttribute
no_parameter h = absurd (cc)

pub fields_in_role : (Is : Mention → Option ℕ → Type 0) (body : BodyTerm) (information : QualifiedName)
    (fields : List FieldText) (numbers : List (Option ℕ)) → AreFieldsOf body information fields →
    AreInRole Is FieldAttribute (body_mentions body) numbers → AreEach Is (map field_mention fields) numbers
fields_in_role Is body information fields numbers are in_role =
    each_field fields (past_row OfParameter are.parameters (field_mentions (field_terms fields)) no_parameter
    (past_row OfBehaviour are.behaviours (mentions OfParameter are.parameters
    ++ field_mentions (field_terms fields)) no_behaviour
    (subst (λ b. AreInRole Is FieldAttribute (body_mentions b) numbers) are.is in_role)))

-- the number of the field at a place
pub number_of_field : (Is : Mention → Option ℕ → Type 0) (fields : List FieldText) (numbers : List (Option ℕ)) (k : ℕ)
    (field : FieldText) (number : Option ℕ) → AreEach Is (map field_mention fields) numbers →
    slice_get fields k ≡ Some field → ((n : Option ℕ) → slice_get numbers k ≡ Some n → number ≡ n) →
    Is (field_mention field) number
number_of_field Is fields numbers k field number are at held =
    let found = beside Is (map field_mention fields) numbers k (field_mention field) are
    (slice_get-map field_mention fields k ∙ ap (option_map field_mention) at) in
    subst (Is (field_mention field)) (sym (held found.0 found.1)) found.2

pub same_fields : (fields : List FieldText) → map (λ x. x) fields ≡ fields
same_fields [] = refl
same_fields (x ∷ xs) = ap (λ ys. x ∷ ys) (same_fields xs)

pub on_ok_by : {A E : Type 0} {P Q : Type 0} (r : Result A E) → (P → Q) → OnOk r P → OnOk r Q
on_ok_by (Ok x) f h = f h
on_ok_by (Err e) f h = tt
