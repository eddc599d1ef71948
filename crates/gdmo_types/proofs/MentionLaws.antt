-- MentionLaws: DERIVED FROM of an attribute alone names a template in the role of a base.
use Rattle.std.specs.Prelude.{◌≡◌, ℕ, zero, suc, List, [], ◌∷◌, ◌++◌, Bool, true, false, Some, Contains}
use Rattle.std.specs.Prelude.{refl, slice_get}
use Rattle.std.proofs.Common.{ap, sym, inl, inr, ◌∙◌}
use Rattle.std.proofs.lemmas.Bool.{true≢false}
use Rattle.std.proofs.lemmas.List.Elements.{Contains-append_cases}
use Rattle.std.proofs.lemmas.Option.{same_Some}
use Rattle.gdmo_names.specs.AttributeSyntaxes.{syntax_of}
use Rattle.gdmo_names.specs.Mentions.{Role, Mention, body_mentions, field_mentions, life_mentions, mention, mentions}
use Rattle.gdmo_names.specs.Mentions.{row_mentions, stated_mentions, syntax_mentions, use_mentions}
use Rattle.gdmo_names.specs.Mentions.Role.{Superclass, MandatoryPackage, ConditionalPackage, PackageAttribute}
use Rattle.gdmo_names.specs.Mentions.Role.{PackageGroup, AddedAttribute, PackageAction, PackageNotification}
use Rattle.gdmo_names.specs.Mentions.Role.{DerivationRule, SubordinateClass, SuperiorClass, NamingAttribute}
use Rattle.gdmo_names.specs.Mentions.Role.{BaseAttribute, ParameterAttribute, GroupElement, FieldAttribute}
use Rattle.gdmo_names.specs.Mentions.Role.{OfParameter, OfBehaviour}
use Rattle.gdmo_names.specs.TemplateTerms.{ReferenceTerm, ReferenceTerms, BodyTerm, SyntaxTerm, StatedTerm, UseTerms}
use Rattle.gdmo_names.specs.TemplateTerms.{RowTerms, LifeTerm, FieldTerms}
use Rattle.gdmo_names.specs.TemplateTerms.ReferenceTerms.{NoReferences, Reference}
use Rattle.gdmo_names.specs.TemplateTerms.BodyTerm.{ClassBody, PackageBody, ParameterBody, BindingBody}
use Rattle.gdmo_names.specs.TemplateTerms.BodyTerm.{AttributeBody, GroupBody, BehaviourBody, ActionBody}
use Rattle.gdmo_names.specs.TemplateTerms.BodyTerm.{NotificationBody}
use Rattle.gdmo_names.specs.TemplateTerms.SyntaxTerm.{OfType, OfAttribute}
use Rattle.gdmo_names.specs.TemplateTerms.StatedTerm.{NotStated, StatedValue, ByRule}
use Rattle.gdmo_names.specs.TemplateTerms.UseTerms.{NoUses, Use}
use Rattle.gdmo_names.specs.TemplateTerms.RowTerms.{NoRows, Row}
use Rattle.gdmo_names.specs.TemplateTerms.LifeTerm.{NoLife, Life}
use Rattle.gdmo_names.specs.TemplateTerms.FieldTerms.{NoFields, Field}
use Rattle.gdmo_types.proofs.StepLaws.{contained_get, get_contained}

abbrev is_base : Role → Bool
is_base BaseAttribute = true
is_base _ = false

-- none of these names a base
abbrev NoBase : List Mention → Type 0
NoBase xs = (reference : ReferenceTerm) → Contains xs (mention BaseAttribute reference) → ⊥

none_in : NoBase []
none_in reference has = let place = contained_get [] (mention BaseAttribute reference) has in
    absurd (let at = place.1 in cc)

one_in : (role : Role) (its : ReferenceTerm) (xs : List Mention) → is_base role ≡ false → NoBase xs →
    NoBase (mention role its ∷ xs)
one_in role its xs other rest reference has =
    let place = contained_get (mention role its ∷ xs) (mention BaseAttribute reference) has in by place.0 place.1
  where
    by : (k : ℕ) → slice_get (mention role its ∷ xs) k ≡ Some (mention BaseAttribute reference) → ⊥
    by zero at = true≢false (sym (ap (λ (x : Mention). is_base x.role)
        (same_Some (mention role its) (mention BaseAttribute reference) at)) ∙ other)
    by (suc k) at = rest reference (get_contained xs k (mention BaseAttribute reference) at)

both_in : (xs ys : List Mention) → NoBase xs → NoBase ys → NoBase (xs ++ ys)
both_in xs ys one other reference has =
    elim (Contains-append_cases xs ys (mention BaseAttribute reference) has) as (λ _. ⊥) [
      | inl here ↦ one reference here
      | inr here ↦ other reference here
    ]

row_in : (role : Role) → is_base role ≡ false → (xs : ReferenceTerms) → NoBase (mentions role xs)
row_in role other NoReferences = none_in
row_in role other (Reference x xs) = one_in role x (mentions role xs) other (row_in role other xs)

stated_in : (x : StatedTerm) → NoBase (stated_mentions x)
stated_in NotStated = none_in
stated_in (StatedValue name) = none_in
stated_in (ByRule rule) = one_in DerivationRule rule [] refl none_in

uses_in : (xs : UseTerms) → NoBase (use_mentions xs)
uses_in NoUses = none_in
uses_in (Use attribute default initial permitted required words parameters rest) =
    one_in PackageAttribute attribute _ refl (both_in (stated_mentions default) _ (stated_in default)
    (both_in (stated_mentions initial) _ (stated_in initial)
    (both_in (mentions OfParameter parameters) (use_mentions rest) (row_in OfParameter refl parameters)
    (uses_in rest))))

rows_in : (role behind : Role) → is_base role ≡ false → is_base behind ≡ false → (xs : RowTerms) →
    NoBase (row_mentions role behind xs)
rows_in role behind one other NoRows = none_in
rows_in role behind one other (Row x xs rest) = one_in role x _ one
    (both_in (mentions behind xs) (row_mentions role behind rest) (row_in behind other xs)
    (rows_in role behind one other rest))

life_in : (x : LifeTerm) → NoBase (life_mentions x)
life_in NoLife = none_in
life_in (Life words parameters) = row_in OfParameter refl parameters

fields_in : (xs : FieldTerms) → NoBase (field_mentions xs)
fields_in NoFields = none_in
fields_in (Field name attribute rest) = one_in FieldAttribute attribute (field_mentions rest) refl (fields_in rest)

parameter_in : (x : SyntaxTerm) → NoBase (syntax_mentions ParameterAttribute x)
parameter_in (OfType name) = none_in
parameter_in (OfAttribute attribute) = one_in ParameterAttribute attribute [] refl none_in

attribute_in : (behaviours parameters : ReferenceTerms) → NoBase (mentions OfBehaviour behaviours
    ++ mentions OfParameter parameters)
attribute_in behaviours parameters = both_in (mentions OfBehaviour behaviours) (mentions OfParameter parameters)
    (row_in OfBehaviour refl behaviours) (row_in OfParameter refl parameters)

-- what names a base is the syntax of an attribute
pub base_of : (body : BodyTerm) (reference : ReferenceTerm) →
    Contains (body_mentions body) (mention BaseAttribute reference) → syntax_of body ≡ Some (OfAttribute reference)
base_of (ClassBody superclasses mandatory conditional) reference has =
    absurd (both_in (mentions Superclass superclasses) _ (row_in Superclass refl superclasses)
    (both_in (mentions MandatoryPackage mandatory) (mentions ConditionalPackage conditional)
    (row_in MandatoryPackage refl mandatory) (row_in ConditionalPackage refl conditional)) reference has)
base_of (PackageBody behaviours attributes groups actions notifications) reference has =
    absurd (both_in (mentions OfBehaviour behaviours) _ (row_in OfBehaviour refl behaviours)
    (both_in (use_mentions attributes) _ (uses_in attributes)
    (both_in (row_mentions PackageGroup AddedAttribute groups) _ (rows_in PackageGroup AddedAttribute refl refl groups)
    (both_in (row_mentions PackageAction OfParameter actions)
    (row_mentions PackageNotification OfParameter notifications)
    (rows_in PackageAction OfParameter refl refl actions)
    (rows_in PackageNotification OfParameter refl refl notifications)))) reference has)
base_of (ParameterBody syntax behaviours) reference has =
    absurd (both_in (syntax_mentions ParameterAttribute syntax) (mentions OfBehaviour behaviours) (parameter_in syntax)
    (row_in OfBehaviour refl behaviours) reference has)
base_of (BindingBody below below_all above above_all attribute behaviours create delete) reference has =
    let lives : List Mention = life_mentions create ++ life_mentions delete in
    let last : List Mention = mention NamingAttribute attribute ∷ (mentions OfBehaviour behaviours ++ lives) in
    absurd (one_in SubordinateClass below (mention SuperiorClass above ∷ last) refl
    (one_in SuperiorClass above last refl
    (one_in NamingAttribute attribute (mentions OfBehaviour behaviours ++ lives) refl
    (both_in (mentions OfBehaviour behaviours) lives (row_in OfBehaviour refl behaviours)
    (both_in (life_mentions create) (life_mentions delete) (life_in create) (life_in delete))))) reference has)
base_of (AttributeBody (OfType name) rules behaviours parameters) reference has =
    absurd (attribute_in behaviours parameters reference has)
base_of (AttributeBody (OfAttribute attribute) rules behaviours parameters) reference has =
    let rest : List Mention = mentions OfBehaviour behaviours ++ mentions OfParameter parameters in
    let place = contained_get (mention BaseAttribute attribute ∷ rest) (mention BaseAttribute reference) has in
    by place.0 place.1
  where
    by : (k : ℕ) → slice_get (mention BaseAttribute attribute ∷ (mentions OfBehaviour behaviours
        ++ mentions OfParameter parameters)) k ≡ Some (mention BaseAttribute reference) →
        Some (OfAttribute attribute) ≡ Some (OfAttribute reference)
    by zero at = ap (λ (x : Mention). Some (OfAttribute x.reference))
        (same_Some (mention BaseAttribute attribute) (mention BaseAttribute reference) at)
    by (suc k) at = absurd (attribute_in behaviours parameters reference
        (get_contained _ k (mention BaseAttribute reference) at))
base_of (GroupBody elements fixed) reference has = absurd (row_in GroupElement refl elements reference has)
base_of BehaviourBody reference has = absurd (none_in reference has)
base_of (ActionBody behaviours confirmed parameters information reply) reference has =
    absurd (attribute_in behaviours parameters reference has)
base_of (NotificationBody behaviours parameters information its_rows reply) reference has =
    absurd (both_in (mentions OfBehaviour behaviours) _ (row_in OfBehaviour refl behaviours)
    (both_in (mentions OfParameter parameters) (field_mentions its_rows) (row_in OfParameter refl parameters)
    (fields_in its_rows)) reference has)

abbrev attribute_named : ReferenceTerm → SyntaxTerm → ReferenceTerm
attribute_named other (OfType name) = other
attribute_named other (OfAttribute one) = one

-- and each such syntax names one
pub base_named : (body : BodyTerm) (reference : ReferenceTerm) → syntax_of body ≡ Some (OfAttribute reference) →
    Contains (body_mentions body) (mention BaseAttribute reference)
base_named (AttributeBody (OfType name) rules behaviours parameters) reference is =
    absurd (let e = same_Some (OfType name) (OfAttribute reference) is in cc)
base_named (AttributeBody (OfAttribute attribute) rules behaviours parameters) reference is =
    get_contained (mention BaseAttribute attribute
    ∷ (mentions OfBehaviour behaviours ++ mentions OfParameter parameters)) 0 (mention BaseAttribute reference)
    (ap (λ r. Some (mention BaseAttribute (attribute_named attribute r)))
    (same_Some (OfAttribute attribute) (OfAttribute reference) is))
base_named (ClassBody superclasses mandatory conditional) reference is = absurd (cc)
base_named (PackageBody behaviours attributes groups actions notifications) reference is = absurd (cc)
base_named (ParameterBody syntax behaviours) reference is = absurd (cc)
base_named (BindingBody below below_all above above_all attribute behaviours create delete) reference is = absurd (cc)
base_named (GroupBody elements fixed) reference is = absurd (cc)
base_named BehaviourBody reference is = absurd (cc)
base_named (ActionBody behaviours confirmed parameters information reply) reference is = absurd (cc)
base_named (NotificationBody behaviours parameters information its_rows reply) reference is = absurd (cc)
