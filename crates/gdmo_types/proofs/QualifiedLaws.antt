-- QualifiedLaws: what is wrong with the names of types and values in templates.
use Rattle.std.specs.Prelude.{◌≡◌, ◌≢◌, ℕ, List, [], ◌∷◌, ◌++◌, Option, Some, Contains, refl}
use Rattle.std.proofs.Common.{ap, inl, inr, map, sym, subst, ◌∙◌}
use Rattle.std.specs.declared.alloc.Global.{Global}
use Rattle.std.specs.declared.vec.Vec.{Vec}
use Rattle.token_grammar.specs.declared.qualified_name.QualifiedName.{QualifiedName}
use Rattle.asn1_names.specs.CodeMeanings.{IsTypeNumber, IsValueNumber}
use Rattle.asn1_names.specs.ModuleTerms.{ModuleTerm}
use Rattle.asn1_names.specs.NameMeaning.{Meaning, meaning_within, module_meaning}
use Rattle.asn1_names.specs.NameMeaning.Meaning.{StandardType, Nothing}
use Rattle.asn1_names.specs.NameMeaning.ModuleMeaning.{NoModule}
use Rattle.asn1_names.specs.NodeCount.{IsNoType}
use Rattle.asn1_names.specs.ResolvedTypes.{meaning_of}
use Rattle.gdmo_classes.specs.declared.attribute_use.AttributeUse.{AttributeUse}
use Rattle.gdmo_names.specs.ClassViews.{stated_term, use_terms, uses_of}
use Rattle.gdmo_names.specs.DocumentTemplates.{templates}
use Rattle.gdmo_names.specs.FaultSets.{AnyOf, Either, FaultSet, Notes, OneFault, ThisFault}
use Rattle.gdmo_names.specs.FirstLabelFault.{HasFault, LabelFault}
use Rattle.gdmo_names.specs.FirstLabelFault.LabelFault.{KindWrong, LabelUnknown}
use Rattle.gdmo_names.specs.PartTerms.{Placed, PartTerms, body_of, module_terms_of}
use Rattle.gdmo_names.specs.TemplateTerms.{BodyTerm}
use Rattle.gdmo_names.specs.TypeMeaning.{NamesType, NamesValue, name_list, qualified_meaning, stated_values}
use Rattle.gdmo_names.specs.TypeMeaning.{type_names, use_types, use_values, value_names}
use Rattle.gdmo_names.specs.UnknownLabels.{NamesQualified, UnknownLabelAt}
use Rattle.gdmo_names.specs.UnknownLabels.UnknownLabelAt.{module_name, type_or_value}
use Rattle.gdmo_names.specs.WrongKinds.{IsOfOtherSort, IsTypeMeaning, IsValueMeaning, WrongKindAt}
use Rattle.gdmo_names.specs.WrongKinds.IsOfOtherSort.{value_for_type, type_for_value}
use Rattle.gdmo_names.specs.WrongKinds.WrongKindAt.{other_sort}
use Rattle.gdmo_names.specs.declared.first_fault.LabelFault.{LabelFault as NotedFault}
use Rattle.gdmo_names.proofs.NotingLaws.{any_none, both_noted, left_noted, noted_by, one_there}
use Rattle.gdmo_names.proofs.NotingLaws.{right_noted}
use Rattle.gdmo_types.specs.QualifiedFaults.{BodyNameFaults, IsNotAssigned, NameFaults, PropertyFaults}
use Rattle.gdmo_types.specs.QualifiedFaults.{QualifiedFaults, TypeNameFaults, UnknownName, ValueNameFaults}
use Rattle.gdmo_types.proofs.PlaceFaultLaws.{any_both, any_found, any_left, any_noted, any_right}

-- ---- what a name means

-- what a name means, by its two texts
pub same_meaning : (ms : List ModuleTerm) (name : QualifiedName) (m n : List ℕ) → m ≡ name.module_name.text →
    n ≡ name.name.text → meaning_of ms m n ≡ qualified_meaning ms name
unfolding qualified_meaning meaning_of
same_meaning ms name m n m_is n_is = ap (λ x. meaning_within ms (module_meaning ms x) n) m_is ∙
    ap (λ y. meaning_within ms (module_meaning ms name.module_name.text) y) n_is

-- a name of no module means nothing
pub nothing_meant : (ms : List ModuleTerm) (name : QualifiedName) →
    module_meaning ms name.module_name.text ≡ NoModule → qualified_meaning ms name ≡ Nothing
unfolding qualified_meaning meaning_within
nothing_meant ms name h = ap (λ m. meaning_within ms m name.name.text) h

pub type_meant : (ms : List ModuleTerm) (number : ℕ) (meaning : Meaning) → IsTypeNumber ms number meaning →
    IsTypeMeaning meaning × (¬ IsValueMeaning meaning) × (meaning ≢ Nothing) × (¬ IsNoType meaning)
type_meant ms number meaning is = subst (λ m. IsTypeMeaning m × (¬ IsValueMeaning m) × (m ≢ Nothing) × (¬ IsNoType m))
    (sym is.is) (tt, (λ h. h), (λ h. absurd (cc)), (λ h. h))

pub value_meant : (ms : List ModuleTerm) (number : ℕ) (meaning : Meaning) → IsValueNumber ms number meaning →
    IsValueMeaning meaning × (¬ IsTypeMeaning meaning) × (meaning ≢ Nothing) × IsNoType meaning
value_meant ms number meaning is = subst (λ m. IsValueMeaning m × (¬ IsTypeMeaning m) × (m ≢ Nothing) × IsNoType m)
    (sym is.is) (tt, (λ h. h), (λ h. absurd (cc)), tt)

pub standard_meant : (meaning : Meaning) (syntax : _) → meaning ≡ StandardType syntax →
    IsTypeMeaning meaning × (¬ IsValueMeaning meaning) × (meaning ≢ Nothing) × (¬ IsNoType meaning)
standard_meant meaning syntax is =
    subst (λ m. IsTypeMeaning m × (¬ IsValueMeaning m) × (m ≢ Nothing) × (¬ IsNoType m)) (sym is)
    (tt, (λ h. h), (λ h. absurd (cc)), (λ h. h))

pub nothing_is : (meaning : Meaning) → meaning ≡ Nothing →
    (¬ IsTypeMeaning meaning) × (¬ IsValueMeaning meaning) × IsNoType meaning
nothing_is meaning is = subst (λ m. (¬ IsTypeMeaning m) × (¬ IsValueMeaning m) × IsNoType m) (sym is)
    ((λ h. h), (λ h. h), tt)

-- ---- one name

pub no_module_noted : (ms : List ModuleTerm) (document : ℕ) (name : QualifiedName) (one next : Option NotedFault) →
    module_meaning ms name.module_name.text ≡ NoModule →
    Notes (ThisFault LabelUnknown document name.module_name.at) one next → Notes (UnknownName ms document name) one next
no_module_noted ms document name one next is h =
    left_noted (OneFault (module_meaning ms name.module_name.text ≡ NoModule) LabelUnknown document
    name.module_name.at) (OneFault (IsNotAssigned ms name) LabelUnknown document name.name.at)
    (λ k d t fault. fault.0.0 is) (one_there is h)

pub module_noted : (ms : List ModuleTerm) (document : ℕ) (name : QualifiedName) (one next : Option NotedFault) →
    module_meaning ms name.module_name.text ≢ NoModule →
    Notes (OneFault (qualified_meaning ms name ≡ Nothing) LabelUnknown document name.name.at) one next →
    Notes (UnknownName ms document name) one next
module_noted ms document name one next is h =
    right_noted (OneFault (module_meaning ms name.module_name.text ≡ NoModule) LabelUnknown document
    name.module_name.at) (OneFault (IsNotAssigned ms name) LabelUnknown document name.name.at)
    (λ k d t fault. is fault.0)
    (noted_by (OneFault (qualified_meaning ms name ≡ Nothing) LabelUnknown document name.name.at)
    (OneFault (IsNotAssigned ms name) LabelUnknown document name.name.at)
    (λ k d t fault. ((is, fault.0), fault.1, fault.2, fault.3)) (λ k d t fault. (fault.0.1, fault.1, fault.2, fault.3))
    h)

pub other_noted : (IsOther : Meaning → Type 0) (ms : List ModuleTerm) (document : ℕ) (name : QualifiedName)
    (one between next : Option NotedFault) → IsOther (qualified_meaning ms name) →
    Notes (UnknownName ms document name) one between → Notes (ThisFault KindWrong document name.name.at) between next →
    Notes (NameFaults IsOther ms document name) one next
other_noted IsOther ms document name one between next is p q =
    both_noted (UnknownName ms document name)
    (OneFault (IsOther (qualified_meaning ms name)) KindWrong document name.name.at) p (one_there is q)

pub same_noted : (IsOther : Meaning → Type 0) (ms : List ModuleTerm) (document : ℕ) (name : QualifiedName)
    (one next : Option NotedFault) → ¬ IsOther (qualified_meaning ms name) →
    Notes (UnknownName ms document name) one next → Notes (NameFaults IsOther ms document name) one next
same_noted IsOther ms document name one next is p = left_noted (UnknownName ms document name)
    (OneFault (IsOther (qualified_meaning ms name)) KindWrong document name.name.at) (λ k d t fault. is fault.0) p

-- ---- names in a list

pub one_name : (Faults : QualifiedName → FaultSet) (name : QualifiedName) {one next : Option NotedFault} →
    Notes (Faults name) one next → Notes (AnyOf Faults (name ∷ [])) one next
one_name Faults name h = left_noted (Faults name) (AnyOf Faults []) (λ k d t fault. fault) h

pub both_names : (Faults : QualifiedName → FaultSet) (xs ys : List QualifiedName)
    {one other next : Option NotedFault} → Notes (AnyOf Faults xs) one other → Notes (AnyOf Faults ys) other next →
    Notes (AnyOf Faults (xs ++ ys)) one next
both_names Faults xs ys p q = noted_by (Either (AnyOf Faults xs) (AnyOf Faults ys)) (AnyOf Faults (xs ++ ys))
    (λ k d t fault. elim fault as (λ _. AnyOf Faults (xs ++ ys) k d t) [
      | inl one ↦ any_left Faults xs ys k d t one
      | inr one ↦ any_right Faults xs ys k d t one
    ])
    (any_both Faults xs ys) (both_noted (AnyOf Faults xs) (AnyOf Faults ys) p q)

-- a template that names types alone
pub types_alone : (ms : List ModuleTerm) (document : ℕ) (body : BodyTerm) {one next : Option NotedFault} →
    value_names body ≡ [] → Notes (AnyOf (TypeNameFaults ms document) (type_names body)) one next →
    Notes (BodyNameFaults ms document body) one next
types_alone ms document body empty h =
    left_noted (AnyOf (TypeNameFaults ms document) (type_names body))
    (AnyOf (ValueNameFaults ms document) (value_names body))
    (λ k d t fault. subst (λ names. AnyOf (ValueNameFaults ms document) names k d t) empty fault) h

-- one that names none
pub no_names : (ms : List ModuleTerm) (document : ℕ) (body : BodyTerm) (before : Option NotedFault) →
    value_names body ≡ [] → type_names body ≡ [] → Notes (BodyNameFaults ms document body) before before
no_names ms document body before no_values no_types = types_alone ms document body no_values
    (subst (λ names. Notes (AnyOf (TypeNameFaults ms document) names) before before) (sym no_types)
    (any_none (TypeNameFaults ms document) before))

-- ---- the attributes of a package

abbrev pub UseFaults : List ModuleTerm → ℕ → AttributeUse → FaultSet
UseFaults ms document x = PropertyFaults ms document x.properties

abbrev InPackage : List ModuleTerm → ℕ → List AttributeUse → FaultSet
InPackage ms document xs = Either (AnyOf (TypeNameFaults ms document) (use_types (use_terms xs)))
    (AnyOf (ValueNameFaults ms document) (use_values (use_terms xs)))

abbrev permitted : AttributeUse → List QualifiedName
permitted x = name_list x.properties.permitted_values

abbrev required : AttributeUse → List QualifiedName
required x = name_list x.properties.required_values

abbrev first_values : AttributeUse → List QualifiedName
first_values x = stated_values (stated_term x.properties.default_value)

abbrev second_values : AttributeUse → List QualifiedName
second_values x = stated_values (stated_term x.properties.initial_value)

abbrev types_behind : List AttributeUse → List QualifiedName
types_behind xs = use_types (use_terms xs)

abbrev values_behind : List AttributeUse → List QualifiedName
values_behind xs = use_values (use_terms xs)

uses_in : (ms : List ModuleTerm) (document : ℕ) (xs : List AttributeUse) (kind : LabelFault) (d t : ℕ) →
    AnyOf (UseFaults ms document) xs kind d t → InPackage ms document xs kind d t
uses_in ms document [] kind d t fault = absurd fault
uses_in ms document (x ∷ xs) kind d t (inl (inl (inl (inl value)))) =
    inr (any_left (ValueNameFaults ms document) (first_values x) (second_values x ++ values_behind xs) kind d t value)
uses_in ms document (x ∷ xs) kind d t (inl (inl (inl (inr value)))) =
    inr (any_right (ValueNameFaults ms document) (first_values x) (second_values x ++ values_behind xs) kind d t
    (any_left (ValueNameFaults ms document) (second_values x) (values_behind xs) kind d t value))
uses_in ms document (x ∷ xs) kind d t (inl (inl (inr type))) =
    inl (any_left (TypeNameFaults ms document) (permitted x) (required x ++ types_behind xs) kind d t type)
uses_in ms document (x ∷ xs) kind d t (inl (inr type)) =
    inl (any_right (TypeNameFaults ms document) (permitted x) (required x ++ types_behind xs) kind d t
    (any_left (TypeNameFaults ms document) (required x) (types_behind xs) kind d t type))
uses_in ms document (x ∷ xs) kind d t (inr behind) =
    elim (uses_in ms document xs kind d t behind) as (λ _. InPackage ms document (x ∷ xs) kind d t) [
      | inl type ↦ inl (any_right (TypeNameFaults ms document) (permitted x) (required x ++ types_behind xs) kind d t
          (any_right (TypeNameFaults ms document) (required x) (types_behind xs) kind d t type))
      | inr value ↦ inr (any_right (ValueNameFaults ms document) (first_values x)
          (second_values x ++ values_behind xs) kind d t
          (any_right (ValueNameFaults ms document) (second_values x) (values_behind xs) kind d t value))
    ]

in_uses : (ms : List ModuleTerm) (document : ℕ) (xs : List AttributeUse) (kind : LabelFault) (d t : ℕ) →
    InPackage ms document xs kind d t → AnyOf (UseFaults ms document) xs kind d t
in_uses ms document [] kind d t (inl type) = absurd type
in_uses ms document [] kind d t (inr value) = absurd value
in_uses ms document (x ∷ xs) kind d t (inl type) =
    elim (any_both (TypeNameFaults ms document) (permitted x) (required x ++ types_behind xs) kind d t type) as
    (λ _. AnyOf (UseFaults ms document) (x ∷ xs) kind d t) [
      | inl one ↦ inl (inl (inr one))
      | inr rest ↦ elim (any_both (TypeNameFaults ms document) (required x) (types_behind xs) kind d t rest) as
          (λ _. AnyOf (UseFaults ms document) (x ∷ xs) kind d t) [
            | inl one ↦ inl (inr one)
            | inr behind ↦ inr (in_uses ms document xs kind d t (inl behind))
          ]
    ]
in_uses ms document (x ∷ xs) kind d t (inr value) =
    elim (any_both (ValueNameFaults ms document) (first_values x) (second_values x ++ values_behind xs) kind d t value)
    as (λ _. AnyOf (UseFaults ms document) (x ∷ xs) kind d t) [
      | inl one ↦ inl (inl (inl (inl one)))
      | inr rest ↦ elim (any_both (ValueNameFaults ms document) (second_values x) (values_behind xs) kind d t rest) as
          (λ _. AnyOf (UseFaults ms document) (x ∷ xs) kind d t) [
            | inl one ↦ inl (inl (inl (inr one)))
            | inr behind ↦ inr (in_uses ms document xs kind d t (inr behind))
          ]
    ]

pub uses_noted : (ms : List ModuleTerm) (document : ℕ) (xs : List AttributeUse) {one next : Option NotedFault} →
    Notes (AnyOf (UseFaults ms document) xs) one next → Notes (InPackage ms document xs) one next
uses_noted ms document xs h = noted_by (AnyOf (UseFaults ms document) xs) (InPackage ms document xs)
    (uses_in ms document xs) (in_uses ms document xs) h

map_same : {X : Type 0} (xs : List X) → map (λ x. x) xs ≡ xs
map_same [] = refl
map_same (x ∷ xs) = ap (λ ys. x ∷ ys) (map_same xs)

-- the same of a package that has attributes
pub package_noted : (ms : List ModuleTerm) (document : ℕ) (attributes : Option (Vec AttributeUse Global))
    (own : Vec AttributeUse Global) (items : List AttributeUse) (one next : Option NotedFault) →
    attributes ≡ Some own → items ≡ own.items → Notes (AnyOf (UseFaults ms document) (map (λ x. x) items)) one next →
    Notes (Either (AnyOf (TypeNameFaults ms document) (use_types (uses_of attributes)))
    (AnyOf (ValueNameFaults ms document) (use_values (uses_of attributes)))) one next
package_noted ms document attributes own items one next is items_are h =
    subst (λ a. Notes (Either (AnyOf (TypeNameFaults ms document) (use_types (uses_of a)))
    (AnyOf (ValueNameFaults ms document) (use_values (uses_of a)))) one next) (sym is)
    (subst (λ xs. Notes (InPackage ms document xs) one next) items_are (uses_noted ms document items
    (subst (λ xs. Notes (AnyOf (UseFaults ms document) xs) one next) (map_same items) h)))

-- ---- the sentences

unknown_is : (parts : PartTerms) (document : ℕ) (name : QualifiedName) (kind : LabelFault) (d t : ℕ) →
    NamesQualified parts document name → UnknownName (module_terms_of parts) document name kind d t →
    HasFault parts kind d t
unknown_is parts document name kind d t names (inl (is, kind_is, is_in, is_at)) =
    subst (λ k. HasFault parts k d t) kind_is
    (subst (λ n. UnknownLabelAt parts n t) is_in (module_name names is is_at))
unknown_is parts document name kind d t names (inr (is, kind_is, is_in, is_at)) =
    subst (λ k. HasFault parts k d t) kind_is
    (subst (λ n. UnknownLabelAt parts n t) is_in (type_or_value names is.0 is.1 is_at))

sort_is : (parts : PartTerms) (document : ℕ) (name : QualifiedName) (kind : LabelFault) (d t : ℕ) {Is : Type 0} →
    IsOfOtherSort parts document name → OneFault Is KindWrong document name.name.at kind d t → HasFault parts kind d t
sort_is parts document name kind d t other (is, kind_is, is_in, is_at) =
    subst (λ k. HasFault parts k d t) kind_is
    (subst (λ n. WrongKindAt parts n t) is_in (other_sort other is_at))

-- what is noted of the names in a template is a fault
pub qualified_is_fault : (parts : PartTerms) (x : Placed) (kind : LabelFault) (d t : ℕ) →
    Contains (templates parts) x → QualifiedFaults parts x kind d t → HasFault parts kind d t
qualified_is_fault parts x kind d t stands (inl fault) =
    let found = any_found (TypeNameFaults (module_terms_of parts) x.document) (type_names (body_of x.template)) kind d t
    fault in by found.0 found.1 found.2
  where
    named : (name : QualifiedName) → Contains (type_names (body_of x.template)) name → NamesType parts x.document name
    named name has = record { by = x; stands = stands; is_in = refl; names = has }

    by : (name : QualifiedName) → Contains (type_names (body_of x.template)) name →
        TypeNameFaults (module_terms_of parts) x.document name kind d t → HasFault parts kind d t
    by name has (inl unknown) = unknown_is parts x.document name kind d t (inl (named name has)) unknown
    by name has (inr other) =
        sort_is parts x.document name kind d t (value_for_type (named name has) other.0) other
qualified_is_fault parts x kind d t stands (inr fault) =
    let found = any_found (ValueNameFaults (module_terms_of parts) x.document) (value_names (body_of x.template)) kind
    d t fault in by found.0 found.1 found.2
  where
    named : (name : QualifiedName) → Contains (value_names (body_of x.template)) name →
        NamesValue parts x.document name
    named name has = record { by = x; stands = stands; is_in = refl; names = has }

    by : (name : QualifiedName) → Contains (value_names (body_of x.template)) name →
        ValueNameFaults (module_terms_of parts) x.document name kind d t → HasFault parts kind d t
    by name has (inl unknown) = unknown_is parts x.document name kind d t (inr (named name has)) unknown
    by name has (inr other) =
        sort_is parts x.document name kind d t (type_for_value (named name has) other.0) other

-- each such fault is noted
type_noted : (parts : PartTerms) (document : ℕ) (name : QualifiedName) (kind : LabelFault) (d t : ℕ) →
    NamesType parts document name → TypeNameFaults (module_terms_of parts) document name kind d t →
    AnyOf (QualifiedFaults parts) (templates parts) kind d t
type_noted parts document name kind d t names fault =
    any_noted (QualifiedFaults parts) (templates parts) names.by kind d t names.stands
    (inl (any_noted (TypeNameFaults (module_terms_of parts) names.by.document) (type_names (body_of names.by.template))
    name kind d t names.names
    (subst (λ n. TypeNameFaults (module_terms_of parts) n name kind d t) (sym names.is_in) fault)))

value_noted : (parts : PartTerms) (document : ℕ) (name : QualifiedName) (kind : LabelFault) (d t : ℕ) →
    NamesValue parts document name → ValueNameFaults (module_terms_of parts) document name kind d t →
    AnyOf (QualifiedFaults parts) (templates parts) kind d t
value_noted parts document name kind d t names fault =
    any_noted (QualifiedFaults parts) (templates parts) names.by kind d t names.stands
    (inr (any_noted (ValueNameFaults (module_terms_of parts) names.by.document)
    (value_names (body_of names.by.template)) name kind d t names.names
    (subst (λ n. ValueNameFaults (module_terms_of parts) n name kind d t) (sym names.is_in) fault)))

unknown_noted : (parts : PartTerms) (document : ℕ) (name : QualifiedName) (kind : LabelFault) (d t : ℕ) →
    NamesQualified parts document name → UnknownName (module_terms_of parts) document name kind d t →
    AnyOf (QualifiedFaults parts) (templates parts) kind d t
unknown_noted parts document name kind d t (inl names) fault =
    type_noted parts document name kind d t names (inl fault)
unknown_noted parts document name kind d t (inr names) fault =
    value_noted parts document name kind d t names (inl fault)

pub no_module_told : (parts : PartTerms) (document : ℕ) (name : QualifiedName) →
    NamesQualified parts document name → module_meaning (module_terms_of parts) name.module_name.text ≡ NoModule →
    AnyOf (QualifiedFaults parts) (templates parts) LabelUnknown document name.module_name.at
no_module_told parts document name names is =
    unknown_noted parts document name LabelUnknown document name.module_name.at names (inl (is, refl, refl, refl))

pub no_name_told : (parts : PartTerms) (document : ℕ) (name : QualifiedName) →
    NamesQualified parts document name → module_meaning (module_terms_of parts) name.module_name.text ≢ NoModule →
    qualified_meaning (module_terms_of parts) name ≡ Nothing →
    AnyOf (QualifiedFaults parts) (templates parts) LabelUnknown document name.name.at
no_name_told parts document name names there is =
    unknown_noted parts document name LabelUnknown document name.name.at names (inr ((there, is), refl, refl, refl))

pub other_sort_told : (parts : PartTerms) (document : ℕ) (name : QualifiedName) → IsOfOtherSort parts document name →
    AnyOf (QualifiedFaults parts) (templates parts) KindWrong document name.name.at
other_sort_told parts document name (value_for_type names is) =
    type_noted parts document name KindWrong document name.name.at names (inr (is, refl, refl, refl))
other_sort_told parts document name (type_for_value names is) =
    value_noted parts document name KindWrong document name.name.at names (inr (is, refl, refl, refl))
