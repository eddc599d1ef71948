-- CarriedNames: linked parts that are alike have the same identifiers, and their names mean the same types and values
-- (X.722, section 8; X.680, sections 13 and 17).
use Rattle.std.specs.Prelude.{◌≡◌, ℕ, zero, suc, [], ◌∷◌, List, None, Some, Option, refl}
use Rattle.std.proofs.Common.{◌∙◌, ap, sym}
use Rattle.std.proofs.Math.Path.{subst}
use Rattle.term_values.specs.Syntaxes.{TypeSyntax}
use Rattle.term_values.specs.Typed.{TypedValue}
use Rattle.token_grammar.specs.declared.token.Token.{Token}
use Rattle.asn1_names.specs.ModuleTerms.{ModuleTerm}
use Rattle.gdmo_names.specs.InStep.{AreEach as AreInStep}
use Rattle.linked_parts.specs.declared.linked.Linked.{Linked}
use Rattle.linked_parts.specs.declared.linked.LinkedAction.{LinkedAction}
use Rattle.linked_parts.specs.declared.linked.LinkedAttribute.{LinkedAttribute}
use Rattle.linked_parts.specs.declared.linked.LinkedClass.{LinkedClass}
use Rattle.linked_parts.specs.declared.linked.LinkedGroup.{LinkedGroup}
use Rattle.linked_parts.specs.declared.linked.LinkedHead.{LinkedHead}
use Rattle.linked_parts.specs.declared.linked.LinkedName.{LinkedName}
use Rattle.linked_parts.specs.declared.linked.LinkedNotification.{LinkedNotification}
use Rattle.linked_parts.specs.declared.linked.LinkedPackage.{LinkedPackage}
use Rattle.linked_types.specs.KnownParts.{identifier_at}
use Rattle.linked_types.specs.PartIdentifiers.{AreEach, IsAttributeId, IsClassId, IsIdentified}
use Rattle.schema_records.specs.ClassRecords.{IsOptionalValue, IsRegistered}
use Rattle.schema_records.specs.MemberRecords.{IsOptionalType}
use Rattle.accepted_laws.specs.AlikeParts.{ActionsAlike, AreAlike, AttributesAlike, ClassesAlike, GroupsAlike}
use Rattle.accepted_laws.specs.AlikeParts.{HeadsAlike, NotificationsAlike, PackagesAlike}
use Rattle.accepted_laws.proofs.AlikeClasses.{same_type, same_value}

-- ---- lists of records

-- records of parts are those of parts that are alike
pub each_carried : {A B : Type 0} (Alike : A → A → Type 0) (Is Also : A → B → Type 0) →
    ((x y : A) (z : B) → Alike x y → Is x z → Also y z) → (xs ys : List A) (zs : List B) → AreInStep Alike xs ys →
    AreEach Is xs zs → AreEach Also ys zs
each_carried Alike Is Also carried [] [] [] alike are = tt
each_carried Alike Is Also carried [] [] (z ∷ zs) alike are = absurd are
each_carried Alike Is Also carried [] (y ∷ ys) zs alike are = absurd alike
each_carried Alike Is Also carried (x ∷ xs) [] zs alike are = absurd alike
each_carried Alike Is Also carried (x ∷ xs) (y ∷ ys) [] alike are = absurd are
each_carried Alike Is Also carried (x ∷ xs) (y ∷ ys) (z ∷ zs) alike are =
    (carried x y z alike.0 are.0, each_carried Alike Is Also carried xs ys zs alike.1 are.1)

-- and so are those of parts that are equal
pub each_again : {A B : Type 0} (Is Also : A → B → Type 0) → ((x : A) (z : B) → Is x z → Also x z) →
    (xs ys : List A) (zs : List B) → xs ≡ ys → AreEach Is xs zs → AreEach Also ys zs
each_again Is Also again xs ys zs same are = subst (λ vs. AreEach Also vs zs) same (by xs zs are)
  where
    by : (vs : List _) (zs : List _) → AreEach Is vs zs → AreEach Also vs zs
    by [] [] are = tt
    by [] (z ∷ zs) are = absurd are
    by (v ∷ vs) [] are = absurd are
    by (v ∷ vs) (z ∷ zs) are = (again v z are.0, by vs zs are.1)

-- ---- identifiers and labels

pub registered_alike : {x y : LinkedHead} {id label : List ℕ} → HeadsAlike x y → IsRegistered x id label →
    IsRegistered y id label
registered_alike same is = record {
  is_id = sym same.identifier ∙ is.is_id;
  is_label = ap (λ (t : Token). t.text) (sym same.label) ∙ is.is_label;
}

same_identifier : {L : Type 0} (head : L → LinkedHead) (Alike : L → L → Type 0) →
    ((x y : L) → Alike x y → HeadsAlike (head x) (head y)) → (xs ys : List L) (k : ℕ) → AreInStep Alike xs ys →
    identifier_at head xs k ≡ identifier_at head ys k
same_identifier head Alike heads [] [] k alike = refl
same_identifier head Alike heads [] (y ∷ ys) k alike = absurd alike
same_identifier head Alike heads (x ∷ xs) [] k alike = absurd alike
same_identifier head Alike heads (x ∷ xs) (y ∷ ys) zero alike = let same = heads x y alike.0 in same.identifier
same_identifier head Alike heads (x ∷ xs) (y ∷ ys) (suc k) alike = same_identifier head Alike heads xs ys k alike.1

-- an identifier of the one, at a place, is that of the other, at the same place
identified_alike : {L : Type 0} (head : L → LinkedHead) (Alike : L → L → Type 0) →
    ((x y : L) → Alike x y → HeadsAlike (head x) (head y)) → (xs ys : List L) (j k : ℕ) (id : List ℕ) →
    AreInStep Alike xs ys → j ≡ k → IsIdentified head xs j id → IsIdentified head ys k id
identified_alike head Alike heads xs ys j k id alike same is =
    ap (identifier_at head ys) (sym same) ∙ sym (same_identifier head Alike heads xs ys j alike) ∙ is

abbrev pub IsPackageId : Linked → ℕ → List ℕ → Type 0
IsPackageId linked = IsIdentified (λ x. x.head) linked.packages.items

abbrev pub IsGroupId : Linked → ℕ → List ℕ → Type 0
IsGroupId linked = IsIdentified (λ x. x.head) linked.groups.items

abbrev pub IsActionId : Linked → ℕ → List ℕ → Type 0
IsActionId linked = IsIdentified (λ x. x.head) linked.actions.items

abbrev pub IsNotificationId : Linked → ℕ → List ℕ → Type 0
IsNotificationId linked = IsIdentified (λ x. x.head) linked.notifications.items

module _ {linked other : Linked} (alike : AreAlike linked other) where
  pub class_id : (j k : ℕ) (id : List ℕ) → j ≡ k → IsClassId linked j id → IsClassId other k id
  class_id j k id = identified_alike (λ (x : LinkedClass). x.head) ClassesAlike (λ x y same. same.head)
      linked.classes.items other.classes.items j k id alike.classes

  pub package_id : (j k : ℕ) (id : List ℕ) → j ≡ k → IsPackageId linked j id → IsPackageId other k id
  package_id j k id = identified_alike (λ (x : LinkedPackage). x.head) PackagesAlike (λ x y same. same.head)
      linked.packages.items other.packages.items j k id alike.packages

  pub attribute_id : (j k : ℕ) (id : List ℕ) → j ≡ k → IsAttributeId linked j id → IsAttributeId other k id
  attribute_id j k id = identified_alike (λ (x : LinkedAttribute). x.head) AttributesAlike (λ x y same. same.head)
      linked.attributes.items other.attributes.items j k id alike.attributes

  pub group_id : (j k : ℕ) (id : List ℕ) → j ≡ k → IsGroupId linked j id → IsGroupId other k id
  group_id j k id = identified_alike (λ (x : LinkedGroup). x.head) GroupsAlike (λ x y same. same.head)
      linked.groups.items other.groups.items j k id alike.groups

  pub action_id : (j k : ℕ) (id : List ℕ) → j ≡ k → IsActionId linked j id → IsActionId other k id
  action_id j k id = identified_alike (λ (x : LinkedAction). x.head) ActionsAlike (λ x y same. same.head)
      linked.actions.items other.actions.items j k id alike.actions

  pub notification_id : (j k : ℕ) (id : List ℕ) → j ≡ k → IsNotificationId linked j id → IsNotificationId other k id
  notification_id j k id = identified_alike (λ (x : LinkedNotification). x.head) NotificationsAlike
      (λ x y same. same.head) linked.notifications.items other.notifications.items j k id alike.notifications

  -- lists of identifiers
  pub class_ids : (js ks : List ℕ) (ids : List (List ℕ)) → js ≡ ks → AreEach (IsClassId linked) js ids →
      AreEach (IsClassId other) ks ids
  class_ids = each_again (IsClassId linked) (IsClassId other) (λ k id. class_id k k id refl)

  pub package_ids : (js ks : List ℕ) (ids : List (List ℕ)) → js ≡ ks → AreEach (IsPackageId linked) js ids →
      AreEach (IsPackageId other) ks ids
  package_ids = each_again (IsPackageId linked) (IsPackageId other) (λ k id. package_id k k id refl)

  pub attribute_ids : (js ks : List ℕ) (ids : List (List ℕ)) → js ≡ ks → AreEach (IsAttributeId linked) js ids →
      AreEach (IsAttributeId other) ks ids
  attribute_ids = each_again (IsAttributeId linked) (IsAttributeId other) (λ k id. attribute_id k k id refl)

  pub action_ids : (js ks : List ℕ) (ids : List (List ℕ)) → js ≡ ks → AreEach (IsActionId linked) js ids →
      AreEach (IsActionId other) ks ids
  action_ids = each_again (IsActionId linked) (IsActionId other) (λ k id. action_id k k id refl)

  pub notification_ids : (js ks : List ℕ) (ids : List (List ℕ)) → js ≡ ks →
      AreEach (IsNotificationId linked) js ids → AreEach (IsNotificationId other) ks ids
  notification_ids = each_again (IsNotificationId linked) (IsNotificationId other)
      (λ k id. notification_id k k id refl)

-- ---- types and values

module _ (ms : List ModuleTerm) {linked other : Linked} (alike : AreAlike linked other) where
  pub optional_type : (name its_name : Option LinkedName) (syntax : Option TypeSyntax) → name ≡ its_name →
      IsOptionalType ms linked name syntax → IsOptionalType ms other its_name syntax
  optional_type name its_name syntax same is =
      subst (λ n. IsOptionalType ms other n syntax) same (by name syntax is)
    where
      by : (name : Option LinkedName) (syntax : Option TypeSyntax) → IsOptionalType ms linked name syntax →
          IsOptionalType ms other name syntax
      by None None is = tt
      by None (Some syntax) is = absurd is
      by (Some name) None is = absurd is
      by (Some name) (Some syntax) is = same_type name alike is

  pub optional_value : (name : Option LinkedName) (value : Option TypedValue) →
      IsOptionalValue ms linked name value → IsOptionalValue ms other name value
  optional_value None None is = tt
  optional_value None (Some value) is = absurd is
  optional_value (Some name) None is = absurd is
  optional_value (Some name) (Some value) is = same_value name alike is
