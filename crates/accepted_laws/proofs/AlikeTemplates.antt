-- AlikeTemplates: the heads of linked templates of one set of documents, and its linked classes and packages, are alike
-- (X.722, sections 8.3 and 8.4; docs/PROFILE.md, sections 12 and 18).
use Rattle.std.proofs.Common.{◌≡◌, ℕ, List, [], ◌∷◌, refl, sym, ◌∙◌}
use Rattle.gdmo_names.specs.InStep.{AreEach}
use Rattle.gdmo_names.specs.Mentions.{Role}
use Rattle.gdmo_names.specs.PartTerms.{Placed, PartTerms, body_of, identifier_of}
use Rattle.gdmo_names.specs.TargetTables.{ArePlacedApart}
use Rattle.gdmo_names.specs.TemplateTerms.{BodyTerm, RowTerms, UseTerms}
use Rattle.gdmo_names.specs.TemplateTerms.BodyTerm.{ActionBody, AttributeBody, BehaviourBody, BindingBody, ClassBody}
use Rattle.gdmo_names.specs.TemplateTerms.BodyTerm.{GroupBody, NotificationBody, PackageBody, ParameterBody}
use Rattle.gdmo_names.specs.TemplateTerms.RowTerms.{NoRows, Row}
use Rattle.gdmo_names.specs.TemplateTerms.UseTerms.{NoUses, Use}
use Rattle.gdmo_linking.specs.LinkedNames.{IsHead}
use Rattle.linked_parts.specs.declared.linked.LinkedClass.{LinkedClass}
use Rattle.linked_parts.specs.declared.linked.LinkedGroupUse.{LinkedGroupUse}
use Rattle.linked_parts.specs.declared.linked.LinkedHead.{LinkedHead}
use Rattle.linked_parts.specs.declared.linked.LinkedPackage.{LinkedPackage}
use Rattle.linked_parts.specs.declared.linked.LinkedUse.{LinkedUse}
use Rattle.linked_packages.specs.LinkedPackages.{AreGroupUses, AreRows, AreUses, IsPackageOf, IsUse}
use Rattle.linked_templates.specs.LinkedTemplates.{IsClassOf}
use Rattle.linked_templates.specs.TemplateTables.{IsTemplate}
use Rattle.accepted_laws.specs.AlikeParts.{ClassesAlike, GroupUsesAlike, HeadsAlike, PackagesAlike}
use Rattle.accepted_laws.proofs.LinkLaws.{one_identifier, one_link, one_optional, one_row}

-- ---- two lists that tell one list

pub each_alike : {A B : Type 0} (is : A → B → Type 0) (alike : B → B → Type 0) →
    ((x : A) (y z : B) → is x y → is x z → alike y z) → (xs : List A) (ys zs : List B) → AreEach is xs ys →
    AreEach is xs zs → AreEach alike ys zs
each_alike is alike step [] [] [] one other = tt
each_alike is alike step [] [] (z ∷ zs) one other = absurd other
each_alike is alike step [] (y ∷ ys) zs one other = absurd one
each_alike is alike step (x ∷ xs) [] zs one other = absurd one
each_alike is alike step (x ∷ xs) (y ∷ ys) [] one other = absurd other
each_alike is alike step (x ∷ xs) (y ∷ ys) (z ∷ zs) one other =
    (step x y z one.0 other.0, each_alike is alike step xs ys zs one.1 other.1)

pub each_equal : {A B : Type 0} (is : A → B → Type 0) → ((x : A) (y z : B) → is x y → is x z → y ≡ z) →
    (xs : List A) (ys zs : List B) → AreEach is xs ys → AreEach is xs zs → ys ≡ zs
each_equal is step [] [] [] one other = refl
each_equal is step [] [] (z ∷ zs) one other = absurd other
each_equal is step [] (y ∷ ys) zs one other = absurd one
each_equal is step (x ∷ xs) [] zs one other = absurd one
each_equal is step (x ∷ xs) (y ∷ ys) [] one other = absurd other
each_equal is step (x ∷ xs) (y ∷ ys) (z ∷ zs) one other =
    let first = step x y z one.0 other.0 in
    let behind = each_equal is step xs ys zs one.1 other.1 in
    λ i. first i ∷ behind i

-- ---- heads

pub heads_alike : (parts : PartTerms) {x : Placed} {one other : LinkedHead} → IsHead parts x one →
    IsHead parts x other → HeadsAlike one other
heads_alike parts {x} {one} {other} is too = record {
  document = is.document ∙ sym too.document;
  label = is.label ∙ sym too.label;
  identifier = one_identifier parts (identifier_of x.template) one.identifier other.identifier is.identifier
      too.identifier;
}

module _ (parts : PartTerms) (apart : ArePlacedApart parts) where
  -- ---- classes

  pub classes_alike : (x : Placed) (one other : LinkedClass) → IsTemplate parts (λ y. y.head) (IsClassOf parts) x one →
      IsTemplate parts (λ y. y.head) (IsClassOf parts) x other → ClassesAlike one other
  classes_alike x one other is too = by (body_of x.template) is.1 too.1
    where
      by : (body : BodyTerm) → IsClassOf parts x.document body one → IsClassOf parts x.document body other →
          ClassesAlike one other
      by (ClassBody _ _ _) a b = record {
        head = heads_alike parts is.0 too.0;
        superclasses = one_row parts apart a.superclasses_are b.superclasses_are;
        mandatory = one_row parts apart a.mandatory_are b.mandatory_are;
        conditional = one_row parts apart a.conditional_are b.conditional_are;
      }
      by (PackageBody _ _ _ _ _) a b = absurd a
      by (ParameterBody _ _) a b = absurd a
      by (BindingBody _ _ _ _ _ _ _ _) a b = absurd a
      by (AttributeBody _ _ _ _) a b = absurd a
      by (GroupBody _ _) a b = absurd a
      by BehaviourBody a b = absurd a
      by (ActionBody _ _ _ _ _) a b = absurd a
      by (NotificationBody _ _ _ _ _) a b = absurd a

  -- ---- packages

  -- attributes of a package
  uses_equal : {document : ℕ} {attribute : _} {default initial : _} {permitted required : _} {words : _}
      {x y : LinkedUse} → IsUse parts document attribute default initial permitted required words x →
      IsUse parts document attribute default initial permitted required words y → x ≡ y
  uses_equal one other =
      let attributes = one_link parts apart one.is_attribute other.is_attribute in
      let tokens = sym one.is_token ∙ other.is_token in
      let defaults = one_optional parts _ _ _ one.is_default other.is_default in
      let initials = one_optional parts _ _ _ one.is_initial other.is_initial in
      let permits = one_optional parts _ _ _ one.is_permitted other.is_permitted in
      let requires = one_optional parts _ _ _ one.is_required other.is_required in
      let gets = sym one.gets ∙ other.gets in
      let replaces = sym one.replaces ∙ other.replaces in
      let adds = sym one.adds ∙ other.adds in
      let removes = sym one.removes ∙ other.removes in
      let sets = sym one.sets_default ∙ other.sets_default in
      λ i. record {
        attribute = attributes i;
        token = tokens i;
        default_value = defaults i;
        initial_value = initials i;
        permitted = permits i;
        required = requires i;
        get = gets i;
        replace = replaces i;
        add = adds i;
        remove = removes i;
        set_to_default = sets i;
      }

  use_lists_equal : (document : ℕ) (uses : UseTerms) (xs ys : List LinkedUse) → AreUses parts document uses xs →
      AreUses parts document uses ys → xs ≡ ys
  use_lists_equal document NoUses [] [] one other = refl
  use_lists_equal document NoUses [] (y ∷ ys) one other = absurd other
  use_lists_equal document NoUses (x ∷ xs) ys one other = absurd one
  use_lists_equal document (Use _ _ _ _ _ _ _ _) [] ys one other = absurd one
  use_lists_equal document (Use _ _ _ _ _ _ _ _) (x ∷ xs) [] one other = absurd other
  use_lists_equal document (Use _ _ _ _ _ _ _ rest) (x ∷ xs) (y ∷ ys) one other =
      let first = uses_equal one.0 other.0 in
      let behind = use_lists_equal document rest xs ys one.1 other.1 in
      λ i. first i ∷ behind i

  -- groups of a package
  group_uses_alike : (document : ℕ) (rows : RowTerms) (xs ys : List LinkedGroupUse) →
      AreGroupUses parts document rows xs → AreGroupUses parts document rows ys → AreEach GroupUsesAlike xs ys
  group_uses_alike document NoRows [] [] one other = tt
  group_uses_alike document NoRows [] (y ∷ ys) one other = absurd other
  group_uses_alike document NoRows (x ∷ xs) ys one other = absurd one
  group_uses_alike document (Row _ _ _) [] ys one other = absurd one
  group_uses_alike document (Row _ _ _) (x ∷ xs) [] one other = absurd other
  group_uses_alike document (Row _ _ rest) (x ∷ xs) (y ∷ ys) one other = (
    record { group = one_link parts apart one.0 other.0; added = one_row parts apart one.1 other.1 },
    group_uses_alike document rest xs ys one.2 other.2,
  )

  -- actions, or notifications, of a package
  rows_equal : (document : ℕ) (role : Role) (rows : RowTerms) (js ks : List ℕ) →
      AreRows parts document role rows js → AreRows parts document role rows ks → js ≡ ks
  rows_equal document role NoRows [] [] one other = refl
  rows_equal document role NoRows [] (k ∷ ks) one other = absurd other
  rows_equal document role NoRows (j ∷ js) ks one other = absurd one
  rows_equal document role (Row _ _ _) [] ks one other = absurd one
  rows_equal document role (Row _ _ _) (j ∷ js) [] one other = absurd other
  rows_equal document role (Row _ _ rest) (j ∷ js) (k ∷ ks) one other =
      let first = one_link parts apart one.0 other.0 in
      let behind = rows_equal document role rest js ks one.1 other.1 in
      λ i. first i ∷ behind i

  pub packages_alike : (x : Placed) (one other : LinkedPackage) →
      IsTemplate parts (λ y. y.head) (IsPackageOf parts) x one →
      IsTemplate parts (λ y. y.head) (IsPackageOf parts) x other → PackagesAlike one other
  packages_alike x one other is too = by (body_of x.template) is.1 too.1
    where
      by : (body : BodyTerm) → IsPackageOf parts x.document body one → IsPackageOf parts x.document body other →
          PackagesAlike one other
      by (PackageBody _ uses groups actions notifications) a b = record {
        head = heads_alike parts is.0 too.0;
        attributes = use_lists_equal x.document uses one.attributes.items other.attributes.items a.attributes_are
            b.attributes_are;
        groups = group_uses_alike x.document groups one.groups.items other.groups.items a.groups_are b.groups_are;
        actions = rows_equal x.document _ actions one.actions.items other.actions.items a.actions_are b.actions_are;
        notifications = rows_equal x.document _ notifications one.notifications.items other.notifications.items
            a.notifications_are b.notifications_are;
      }
      by (ClassBody _ _ _) a b = absurd a
      by (ParameterBody _ _) a b = absurd a
      by (BindingBody _ _ _ _ _ _ _ _) a b = absurd a
      by (AttributeBody _ _ _ _) a b = absurd a
      by (GroupBody _ _) a b = absurd a
      by BehaviourBody a b = absurd a
      by (ActionBody _ _ _ _ _) a b = absurd a
      by (NotificationBody _ _ _ _ _) a b = absurd a
