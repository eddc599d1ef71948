-- PackageLaws: all that a package names is registered (X.722, section 8.4).
use Rattle.std.specs.Prelude.{◌++◌, ◌∷◌, [], ℕ, List, All, refl}
use Rattle.std.proofs.lemmas.List.Elements.{All-cons, All-nil, Contains-append_left}
use Rattle.gdmo_names.specs.DocumentTemplates.{templates}
use Rattle.gdmo_names.specs.FirstLabelFault.{AreFaultless}
use Rattle.gdmo_names.specs.Mentions.{Role, body_mentions, mention, mentions, row_mentions, stated_mentions}
use Rattle.gdmo_names.specs.Mentions.{use_mentions}
use Rattle.gdmo_names.specs.Mentions.Role.{AddedAttribute, OfBehaviour, OfParameter, PackageAction, PackageAttribute}
use Rattle.gdmo_names.specs.Mentions.Role.{PackageGroup, PackageNotification}
use Rattle.gdmo_names.specs.PartTerms.{PartTerms}
use Rattle.gdmo_names.specs.TemplateTerms.{BodyTerm, ReferenceTerm, RowTerms, UseTerms}
use Rattle.gdmo_names.specs.TemplateTerms.BodyTerm.{ActionBody, AttributeBody, BehaviourBody, BindingBody, ClassBody}
use Rattle.gdmo_names.specs.TemplateTerms.BodyTerm.{GroupBody, NotificationBody, PackageBody, ParameterBody}
use Rattle.gdmo_names.specs.TemplateTerms.RowTerms.{NoRows, Row}
use Rattle.gdmo_names.specs.TemplateTerms.UseTerms.{NoUses, Use}
use Rattle.gdmo_linking.specs.LinkedTables.{Links}
use Rattle.linked_parts.specs.declared.linked.Linked.{Linked}
use Rattle.linked_parts.specs.declared.linked.LinkedGroupUse.{LinkedGroupUse}
use Rattle.linked_parts.specs.declared.linked.LinkedPackage.{LinkedPackage}
use Rattle.linked_parts.specs.declared.linked.LinkedUse.{LinkedUse}
use Rattle.linked_packages.specs.LinkedPackages.{AreGroupUses, AreRows, AreUses, IsPackageOf}
use Rattle.linked_templates.specs.TemplateTables.{AreLinkedTemplates}
use Rattle.schema_records.specs.RegisteredParts.{IsActionPlace, IsAttributePlace, IsNotificationPlace}
use Rattle.schema_records.specs.RegisteredParts.{IsRegisteredUse, NamesRegistered}
use Rattle.registered_laws.specs.RegisteredKinds.{AreRegisteredKinds}
use Rattle.registered_laws.proofs.MentionLaws.{AreReferred, all_linked, referred_left, referred_rest, referred_right}
use Rattle.registered_laws.proofs.PartPlaces.{action_place, attribute_place, group_place, notification_place}
use Rattle.registered_laws.proofs.TableLaws.{first_of}

module _ (parts : PartTerms) (linked : Linked) (tables : AreLinkedTemplates parts (templates parts) linked)
    (faultless : AreFaultless parts) (kinds : AreRegisteredKinds parts) (document : ℕ) where
  -- ---- attributes

  IsAttributeUse : LinkedUse → Type 0
  IsAttributeUse stated = IsAttributePlace linked stated.attribute

  uses_registered : (uses : UseTerms) (xs : List LinkedUse) → AreReferred parts document (use_mentions uses) →
      AreUses parts document uses xs → All IsAttributeUse xs
  unfolding IsAttributeUse
  uses_registered NoUses [] all are = All-nil IsAttributeUse
  uses_registered NoUses (x ∷ xs) all are = absurd are
  uses_registered (Use attribute default initial permitted required words parameters rest) [] all are = absurd are
  uses_registered (Use attribute default initial permitted required words parameters rest) (x ∷ xs) all are =
      let behind = mentions OfParameter parameters ++ use_mentions rest in
      let further = stated_mentions initial ++ behind in
      let others = stated_mentions default ++ further in
      All-cons IsAttributeUse x xs
      (attribute_place parts linked tables faultless refl refl
      (all (mention PackageAttribute attribute) (first_of (mention PackageAttribute attribute) others))
      are.0.is_attribute)
      (uses_registered rest xs (referred_right parts document (mentions OfParameter parameters) (use_mentions rest)
      (referred_right parts document (stated_mentions initial) behind
      (referred_right parts document (stated_mentions default) further
      (referred_rest parts document (mention PackageAttribute attribute) others all)))) are.1)

  -- ---- groups

  groups_registered : (rows : RowTerms) (xs : List LinkedGroupUse) →
      AreReferred parts document (row_mentions PackageGroup AddedAttribute rows) → AreGroupUses parts document rows xs →
      All (IsRegisteredUse linked) xs
  groups_registered NoRows [] all are = All-nil (IsRegisteredUse linked)
  groups_registered NoRows (x ∷ xs) all are = absurd are
  groups_registered (Row group added rest) [] all are = absurd are
  groups_registered (Row group added rest) (x ∷ xs) all are =
      let own = mentions AddedAttribute added in
      let others = row_mentions PackageGroup AddedAttribute rest in
      let behind = referred_rest parts document (mention PackageGroup group) (own ++ others) all in
      All-cons (IsRegisteredUse linked) x xs (record {
        group = group_place parts linked tables kinds refl are.0;
        added = all_linked (IsAttributePlace linked) parts document AddedAttribute
            (λ reference k names links. attribute_place parts linked tables faultless refl refl
            (behind (mention AddedAttribute reference)
            (Contains-append_left own others (mention AddedAttribute reference) names)) links) are.1;
      }) (groups_registered rest xs (referred_right parts document own others behind) are.2)

  -- ---- actions and notifications

  rows_registered : (P : ℕ → Type 0) (role : Role) → ((reference : ReferenceTerm) (k : ℕ) →
      Links parts document role reference k → P k) → (rows : RowTerms) (ks : List ℕ) →
      AreRows parts document role rows ks → All P ks
  rows_registered P role step NoRows [] are = All-nil P
  rows_registered P role step NoRows (k ∷ ks) are = absurd are
  rows_registered P role step (Row one parameters rest) [] are = absurd are
  rows_registered P role step (Row one parameters rest) (k ∷ ks) are =
      All-cons P k ks (step one k are.0) (rows_registered P role step rest ks are.1)

  -- ---- packages

  pub package_registered : (body : BodyTerm) (x : LinkedPackage) → AreReferred parts document (body_mentions body) →
      IsPackageOf parts document body x → NamesRegistered linked x
  unfolding IsAttributeUse
  package_registered (PackageBody behaviours uses groups actions notifications) x all is =
      let done = row_mentions PackageAction OfParameter actions
      ++ row_mentions PackageNotification OfParameter notifications in
      let behind = row_mentions PackageGroup AddedAttribute groups ++ done in
      let named = referred_right parts document (mentions OfBehaviour behaviours) (use_mentions uses ++ behind) all in
      let others = referred_right parts document (use_mentions uses) behind named in
      record {
        attributes = uses_registered uses x.attributes.items
            (referred_left parts document (use_mentions uses) behind named) is.attributes_are;
        groups = groups_registered groups x.groups.items
            (referred_left parts document (row_mentions PackageGroup AddedAttribute groups) done others) is.groups_are;
        actions = rows_registered (IsActionPlace linked) PackageAction
            (λ reference k links. action_place parts linked tables kinds refl links) actions x.actions.items
            is.actions_are;
        notifications = rows_registered (IsNotificationPlace linked) PackageNotification
            (λ reference k links. notification_place parts linked tables kinds refl links) notifications
            x.notifications.items is.notifications_are;
      }
  package_registered (ClassBody _ _ _) x all is = absurd is
  package_registered (ParameterBody _ _) x all is = absurd is
  package_registered (BindingBody _ _ _ _ _ _ _ _) x all is = absurd is
  package_registered (AttributeBody _ _ _ _) x all is = absurd is
  package_registered (GroupBody _ _) x all is = absurd is
  package_registered BehaviourBody x all is = absurd is
  package_registered (ActionBody _ _ _ _ _) x all is = absurd is
  package_registered (NotificationBody _ _ _ _ _) x all is = absurd is
