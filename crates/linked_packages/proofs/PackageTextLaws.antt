-- PackageTextLaws: the attributes, groups, actions and notifications of packages with the targets of their references
-- (X.722, section 8.4).
use Rattle.std.specs.Prelude.{◌≡◌, ℕ, List, [], ◌∷◌, ◌++◌, refl}
use Rattle.std.proofs.Common.{ap, sym}
use Rattle.std.proofs.Math.Path.{subst}
use Rattle.linked_parts.specs.declared.linked.LinkedGroupUse.{LinkedGroupUse}
use Rattle.linked_parts.specs.declared.linked.LinkedPackage.{LinkedPackage}
use Rattle.linked_parts.specs.declared.linked.LinkedUse.{LinkedUse}
use Rattle.gdmo_classes.specs.declared.attribute_use.AttributeUse.{AttributeUse}
use Rattle.gdmo_classes.specs.declared.member_use.GroupUse.{GroupUse}
use Rattle.gdmo_classes.specs.declared.package.PackageTemplate.{PackageTemplate}
use Rattle.gdmo_linking.specs.InRoles.{only}
use Rattle.gdmo_linking.specs.Linkers.{IsNamed, LinksMention}
use Rattle.gdmo_linking.proofs.StepLaws.{all_left, all_right}
use Rattle.gdmo_names.specs.ClassViews.{action_rows, group_rows, group_terms, notification_rows, package_term}
use Rattle.gdmo_names.specs.ClassViews.{stated_term, use_terms, uses_of}
use Rattle.gdmo_names.specs.InStep.{AreAll, AreEach}
use Rattle.gdmo_names.specs.MemberViews.{behaviour_terms}
use Rattle.gdmo_names.specs.Mentions.{Role, body_mentions, mentions}
use Rattle.gdmo_names.specs.Mentions.Role.{PackageAttribute, PackageGroup, AddedAttribute, PackageAction}
use Rattle.gdmo_names.specs.Mentions.Role.{PackageNotification}
use Rattle.gdmo_names.specs.PartTerms.{PartTerms, body_of}
use Rattle.gdmo_names.specs.TemplateTerms.{BodyTerm, RowTerms}
use Rattle.gdmo_names.specs.TemplateTerms.RowTerms.{NoRows, Row}
use Rattle.gdmo_names.specs.TypeMeaning.{name_list, stated_values, use_types, use_values}
use Rattle.linked_packages.specs.LinkedPackages.{AreGroupUses, AreRows, AreUses, IsPackageOf}
use Rattle.linked_packages.specs.PackageTexts.{IsGroupText, IsNamedUse, IsUseText, LinksGroup, LinksUse, added_mentions}
use Rattle.linked_packages.specs.PackageTexts.{added_terms}
use Rattle.linked_packages.proofs.PackageLaws.{named_in, package_actions, package_added, package_attributes}
use Rattle.linked_packages.proofs.PackageLaws.{package_groups, package_notifications, row_heads, rows_behind, use_heads}

-- ---- attributes

pub use_links : (parts : PartTerms) (document : ℕ) (xs : List AttributeUse) (ks : List ℕ) →
    AreEach (LinksMention parts document) (use_heads (use_terms xs)) ks → AreEach (LinksUse parts document) xs ks
use_links parts document [] [] each = tt
use_links parts document [] (k ∷ ks) each = absurd each
use_links parts document (x ∷ xs) [] each = absurd each
use_links parts document (x ∷ xs) (k ∷ ks) each = (each.0, use_links parts document xs ks each.1)

pub are_uses : (parts : PartTerms) (document : ℕ) (xs : List AttributeUse) (ys : List LinkedUse) →
    AreEach (IsUseText parts document) xs ys → AreUses parts document (use_terms xs) ys
are_uses parts document [] [] each = tt
are_uses parts document [] (y ∷ ys) each = absurd each
are_uses parts document (x ∷ xs) [] each = absurd each
are_uses parts document (x ∷ xs) (y ∷ ys) each = (each.0, are_uses parts document xs ys each.1)

pub uses_named : (parts : PartTerms) (xs : List AttributeUse) → AreAll (IsNamed parts) (use_types (use_terms xs)) →
    AreAll (IsNamed parts) (use_values (use_terms xs)) → AreAll (IsNamedUse parts) xs
uses_named parts [] types values = tt
uses_named parts (x ∷ xs) types values =
    let permitted = name_list x.properties.permitted_values in
    let required = name_list x.properties.required_values in
    let default = stated_values (stated_term x.properties.default_value) in
    let initial = stated_values (stated_term x.properties.initial_value) in
    let types_behind = use_types (use_terms xs) in
    let values_behind = use_values (use_terms xs) in
    let more_types = all_right (IsNamed parts) permitted (required ++ types_behind) types in
    let more_values = all_right (IsNamed parts) default (initial ++ values_behind) values in (
      record {
        named_default = all_left (IsNamed parts) default (initial ++ values_behind) values;
        named_initial = all_left (IsNamed parts) initial values_behind more_values;
        named_permitted = all_left (IsNamed parts) permitted (required ++ types_behind) types;
        named_required = all_left (IsNamed parts) required types_behind more_types;
      },
      uses_named parts xs (all_right (IsNamed parts) required types_behind more_types)
          (all_right (IsNamed parts) initial values_behind more_values),
    )

-- ---- groups, actions and notifications

pub group_links : (parts : PartTerms) (document : ℕ) (xs : List GroupUse) (ks : List ℕ) →
    AreEach (LinksMention parts document) (row_heads PackageGroup (group_terms xs)) ks →
    AreEach (LinksGroup parts document) xs ks
group_links parts document [] [] each = tt
group_links parts document [] (k ∷ ks) each = absurd each
group_links parts document (x ∷ xs) [] each = absurd each
group_links parts document (x ∷ xs) (k ∷ ks) each = (each.0, group_links parts document xs ks each.1)

pub groups_added : (xs : List GroupUse) → rows_behind AddedAttribute (group_terms xs) ≡ added_mentions xs
groups_added [] = refl
groups_added (x ∷ xs) = ap (λ zs. mentions AddedAttribute (added_terms x) ++ zs) (groups_added xs)

pub are_groups : (parts : PartTerms) (document : ℕ) (xs : List GroupUse) (ys : List LinkedGroupUse) →
    AreEach (IsGroupText parts document) xs ys → AreGroupUses parts document (group_terms xs) ys
are_groups parts document [] [] each = tt
are_groups parts document [] (y ∷ ys) each = absurd each
are_groups parts document (x ∷ xs) [] each = absurd each
are_groups parts document (x ∷ xs) (y ∷ ys) each =
    (each.0.is_group, each.0.are_added, are_groups parts document xs ys each.1)

are_rows : (parts : PartTerms) (document : ℕ) (role : Role) (rows : RowTerms) (ks : List ℕ) →
    AreEach (LinksMention parts document) (row_heads role rows) ks → AreRows parts document role rows ks
are_rows parts document role NoRows [] each = tt
are_rows parts document role NoRows (k ∷ ks) each = absurd each
are_rows parts document role (Row x xs rest) [] each = absurd each
are_rows parts document role (Row x xs rest) (k ∷ ks) each = (each.0, are_rows parts document role rest ks each.1)

-- ---- packages

pub attributes_named : (parts : PartTerms) (document : ℕ) (body : BodyTerm) (t : PackageTemplate) (ks : List ℕ) →
    body ≡ body_of (package_term t) →
    AreEach (LinksMention parts document) (only PackageAttribute (body_mentions body)) ks →
    AreEach (LinksMention parts document) (use_heads (uses_of t.attributes)) ks
attributes_named parts document body t ks is each = named_in parts document PackageAttribute body
    (body_of (package_term t)) (use_heads (uses_of t.attributes)) ks is
    (package_attributes (behaviour_terms t.behaviour) (uses_of t.attributes) (group_rows t.groups)
    (action_rows t.actions) (notification_rows t.notifications)) each

pub groups_named : (parts : PartTerms) (document : ℕ) (body : BodyTerm) (t : PackageTemplate) (ks : List ℕ) →
    body ≡ body_of (package_term t) →
    AreEach (LinksMention parts document) (only PackageGroup (body_mentions body)) ks →
    AreEach (LinksMention parts document) (row_heads PackageGroup (group_rows t.groups)) ks
groups_named parts document body t ks is each = named_in parts document PackageGroup body
    (body_of (package_term t)) (row_heads PackageGroup (group_rows t.groups)) ks is
    (package_groups (behaviour_terms t.behaviour) (uses_of t.attributes) (group_rows t.groups)
    (action_rows t.actions) (notification_rows t.notifications)) each

pub added_named : (parts : PartTerms) (document : ℕ) (body : BodyTerm) (t : PackageTemplate) (ks : List ℕ) →
    body ≡ body_of (package_term t) →
    AreEach (LinksMention parts document) (only AddedAttribute (body_mentions body)) ks →
    AreEach (LinksMention parts document) (rows_behind AddedAttribute (group_rows t.groups)) ks
added_named parts document body t ks is each = named_in parts document AddedAttribute body
    (body_of (package_term t)) (rows_behind AddedAttribute (group_rows t.groups)) ks is
    (package_added (behaviour_terms t.behaviour) (uses_of t.attributes) (group_rows t.groups)
    (action_rows t.actions) (notification_rows t.notifications)) each

pub package_linked : (parts : PartTerms) (document : ℕ) (body : BodyTerm) (t : PackageTemplate) (x : LinkedPackage) →
    body ≡ body_of (package_term t) → AreUses parts document (uses_of t.attributes) x.attributes.items →
    AreGroupUses parts document (group_rows t.groups) x.groups.items →
    AreEach (LinksMention parts document) (only PackageAction (body_mentions body)) x.actions.items →
    AreEach (LinksMention parts document) (only PackageNotification (body_mentions body)) x.notifications.items →
    IsPackageOf parts document body x
package_linked parts document body t x is uses groups actions told =
    let b = behaviour_terms t.behaviour in
    let u = uses_of t.attributes in
    let g = group_rows t.groups in
    let a = action_rows t.actions in
    let n = notification_rows t.notifications in
    subst (λ own. IsPackageOf parts document own x) (sym is) (record {
      attributes_are = uses;
      groups_are = groups;
      actions_are = are_rows parts document PackageAction a x.actions.items
          (named_in parts document PackageAction body (body_of (package_term t)) (row_heads PackageAction a)
          x.actions.items is (package_actions b u g a n) actions);
      notifications_are = are_rows parts document PackageNotification n x.notifications.items
          (named_in parts document PackageNotification body (body_of (package_term t))
          (row_heads PackageNotification n) x.notifications.items is (package_notifications b u g a n) told);
    })
