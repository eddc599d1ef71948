-- LedLaws: what a class or a package names in a role is linked, so it leads to templates of the documents alone (X.722,
-- sections 8.3 and 8.4).
use Rattle.std.specs.Prelude.{◌≡◌, ◌≢◌, ◌⊎◌, ◌<◌, ◌++◌, ◌∷◌, [], ℕ, zero, suc, List, Contains, get_or, length}
use Rattle.std.proofs.Common.{◌∙◌, ap, arith, inl, inr}
use Rattle.std.proofs.Math.Path.{subst}
use Rattle.std.proofs.lemmas.List.Elements.{Contains-append_cases}
use Rattle.gdmo_names.specs.Mentions.{Mention, Role, body_mentions, mention, mentions, row_mentions, stated_mentions}
use Rattle.gdmo_names.specs.Mentions.{use_mentions}
use Rattle.gdmo_names.specs.Mentions.Role.{AddedAttribute, ConditionalPackage, DerivationRule, MandatoryPackage}
use Rattle.gdmo_names.specs.Mentions.Role.{OfBehaviour, OfParameter, PackageAction, PackageAttribute, PackageGroup}
use Rattle.gdmo_names.specs.Mentions.Role.{PackageNotification, Superclass}
use Rattle.gdmo_names.specs.PartTerms.{PartTerms}
use Rattle.gdmo_names.specs.TemplateTerms.{BodyTerm, ReferenceTerms, RowTerms, StatedTerm, UseTerms}
use Rattle.gdmo_names.specs.TemplateTerms.BodyTerm.{ActionBody, AttributeBody, BehaviourBody, BindingBody, ClassBody}
use Rattle.gdmo_names.specs.TemplateTerms.BodyTerm.{GroupBody, NotificationBody, PackageBody, ParameterBody}
use Rattle.gdmo_names.specs.TemplateTerms.ReferenceTerms.{NoReferences, Reference}
use Rattle.gdmo_names.specs.TemplateTerms.RowTerms.{NoRows, Row}
use Rattle.gdmo_names.specs.TemplateTerms.StatedTerm.{ByRule, NotStated, StatedValue}
use Rattle.gdmo_names.specs.TemplateTerms.UseTerms.{NoUses, Use}
use Rattle.gdmo_linking.specs.LinkedTables.{AreLinked, Links}
use Rattle.gdmo_linking.specs.LinkedTables.AreLinked.{another, no_more}
use Rattle.linked_parts.specs.declared.linked.LinkedClass.{LinkedClass}
use Rattle.linked_parts.specs.declared.linked.LinkedPackage.{LinkedPackage}
use Rattle.linked_parts.specs.declared.linked.LinkedUse.{LinkedUse}
use Rattle.linked_packages.specs.LinkedPackages.{AreUses, IsPackageOf}
use Rattle.linked_templates.specs.LinkedTemplates.{IsClassOf}

module _ (parts : PartTerms) (document : ℕ) where
  -- each of these that is named in the role is linked
  unfoldable pub IsAllLinked : Role → List Mention → Type 0
  IsAllLinked role xs = (x : Mention) → Contains xs x → x.role ≡ role →
      (k : ℕ) × Links parts document role x.reference k

  nothing_linked : (role : Role) → IsAllLinked role []
  unfolding IsAllLinked
  nothing_linked role x has named = let w = has.1 in absurd (omega (arith, w))

  both_linked : (role : Role) (xs ys : List Mention) → IsAllLinked role xs → IsAllLinked role ys →
      IsAllLinked role (xs ++ ys)
  unfolding IsAllLinked
  both_linked role xs ys one two x has named = by (Contains-append_cases xs ys x has)
    where
      by : Contains xs x ⊎ Contains ys x → (k : ℕ) × Links parts document role x.reference k
      by (inl here) = one x here named
      by (inr there) = two x there named

  -- one more before the others
  one_linked : (role : Role) (y : Mention) (xs : List Mention) →
      (y.role ≡ role → (k : ℕ) × Links parts document role y.reference k) → IsAllLinked role xs →
      IsAllLinked role (y ∷ xs)
  unfolding IsAllLinked
  one_linked role y xs first others x has named = by has.0 has.1 has.2
    where
      by : (n : ℕ) → n < length (y ∷ xs) → get_or (y ∷ xs) n x ≡ x → (k : ℕ) × Links parts document role x.reference k
      by zero below is = subst (λ (z : Mention). (k : ℕ) × Links parts document role z.reference k) is
          (first (ap (λ (z : Mention). z.role) is ∙ named))
      by (suc n) below is = others x (n, omega (arith, below), is) named

  -- those of another role
  others_linked : (role other : Role) (references : ReferenceTerms) → other ≢ role →
      IsAllLinked role (mentions other references)
  others_linked role other NoReferences apart = nothing_linked role
  others_linked role other (Reference x xs) apart = one_linked role (mention other x) (mentions other xs)
      (λ same. absurd (apart same)) (others_linked role other xs apart)

  rows_linked : (role one behind : Role) (rows : RowTerms) → one ≢ role → behind ≢ role →
      IsAllLinked role (row_mentions one behind rows)
  rows_linked role one behind NoRows apart further = nothing_linked role
  rows_linked role one behind (Row x xs rest) apart further = one_linked role (mention one x)
      (mentions behind xs ++ row_mentions one behind rest) (λ same. absurd (apart same))
      (both_linked role (mentions behind xs) (row_mentions one behind rest) (others_linked role behind xs further)
      (rows_linked role one behind rest apart further))

  -- those of the role itself
  same_linked : (role : Role) {references : ReferenceTerms} {ks : List ℕ} →
      AreLinked parts document role references ks → IsAllLinked role (mentions role references)
  same_linked role no_more = nothing_linked role
  same_linked role (another {x = x} {xs = xs} {k = k} one rest) =
      one_linked role (mention role x) (mentions role xs) (λ same. (k, one)) (same_linked role rest)

  stated_linked : (stated : StatedTerm) → IsAllLinked PackageAttribute (stated_mentions stated)
  stated_linked NotStated = nothing_linked PackageAttribute
  stated_linked (StatedValue name) = nothing_linked PackageAttribute
  stated_linked (ByRule rule) = one_linked PackageAttribute (mention DerivationRule rule) []
      (λ same. absurd (cc)) (nothing_linked PackageAttribute)

  uses_linked : (uses : UseTerms) (xs : List LinkedUse) → AreUses parts document uses xs →
      IsAllLinked PackageAttribute (use_mentions uses)
  uses_linked NoUses xs are = nothing_linked PackageAttribute
  uses_linked (Use attribute default initial permitted required words parameters rest) [] are = absurd are
  uses_linked (Use attribute default initial permitted required words parameters rest) (x ∷ xs) are =
      let behind = mentions OfParameter parameters ++ use_mentions rest in
      let further = stated_mentions initial ++ behind in
      one_linked PackageAttribute (mention PackageAttribute attribute) (stated_mentions default ++ further)
      (λ same. (x.attribute, are.0.is_attribute))
      (both_linked PackageAttribute (stated_mentions default) further (stated_linked default)
      (both_linked PackageAttribute (stated_mentions initial) behind (stated_linked initial)
      (both_linked PackageAttribute (mentions OfParameter parameters) (use_mentions rest)
      (others_linked PackageAttribute OfParameter parameters (λ same. absurd (cc))) (uses_linked rest xs are.1))))

  -- ---- packages and classes

  pub package_linked : (body : BodyTerm) (x : LinkedPackage) → IsPackageOf parts document body x →
      IsAllLinked PackageAttribute (body_mentions body)
  package_linked (PackageBody behaviours uses groups actions notifications) x is =
      let done = row_mentions PackageAction OfParameter actions
      ++ row_mentions PackageNotification OfParameter notifications in
      let behind = row_mentions PackageGroup AddedAttribute groups ++ done in
      both_linked PackageAttribute (mentions OfBehaviour behaviours) (use_mentions uses ++ behind)
      (others_linked PackageAttribute OfBehaviour behaviours (λ same. absurd (cc)))
      (both_linked PackageAttribute (use_mentions uses) behind (uses_linked uses x.attributes.items is.attributes_are)
      (both_linked PackageAttribute (row_mentions PackageGroup AddedAttribute groups) done
      (rows_linked PackageAttribute PackageGroup AddedAttribute groups (λ same. absurd (cc)) (λ same. absurd (cc)))
      (both_linked PackageAttribute (row_mentions PackageAction OfParameter actions)
      (row_mentions PackageNotification OfParameter notifications)
      (rows_linked PackageAttribute PackageAction OfParameter actions (λ same. absurd (cc)) (λ same. absurd (cc)))
      (rows_linked PackageAttribute PackageNotification OfParameter notifications (λ same. absurd (cc))
      (λ same. absurd (cc))))))
  package_linked (ClassBody _ _ _) x is = absurd is
  package_linked (ParameterBody _ _) x is = absurd is
  package_linked (BindingBody _ _ _ _ _ _ _ _) x is = absurd is
  package_linked (AttributeBody _ _ _ _) x is = absurd is
  package_linked (GroupBody _ _) x is = absurd is
  package_linked BehaviourBody x is = absurd is
  package_linked (ActionBody _ _ _ _ _) x is = absurd is
  package_linked (NotificationBody _ _ _ _ _) x is = absurd is

  pub record IsLinkedClass (xs : List Mention) : Type 0 where
    pub superclasses : IsAllLinked Superclass xs
    pub mandatory : IsAllLinked MandatoryPackage xs

  pub class_linked : (body : BodyTerm) (x : LinkedClass) → IsClassOf parts document body x →
      IsLinkedClass (body_mentions body)
  class_linked (ClassBody superclasses mandatory conditional) x is =
      let behind = mentions MandatoryPackage mandatory ++ mentions ConditionalPackage conditional in record {
        superclasses = both_linked Superclass (mentions Superclass superclasses) behind
            (same_linked Superclass is.superclasses_are)
            (both_linked Superclass (mentions MandatoryPackage mandatory) (mentions ConditionalPackage conditional)
            (others_linked Superclass MandatoryPackage mandatory (λ same. absurd (cc)))
            (others_linked Superclass ConditionalPackage conditional (λ same. absurd (cc))));
        mandatory = both_linked MandatoryPackage (mentions Superclass superclasses) behind
            (others_linked MandatoryPackage Superclass superclasses (λ same. absurd (cc)))
            (both_linked MandatoryPackage (mentions MandatoryPackage mandatory)
            (mentions ConditionalPackage conditional) (same_linked MandatoryPackage is.mandatory_are)
            (others_linked MandatoryPackage ConditionalPackage conditional (λ same. absurd (cc))));
      }
  class_linked (PackageBody _ _ _ _ _) x is = absurd is
  class_linked (ParameterBody _ _) x is = absurd is
  class_linked (BindingBody _ _ _ _ _ _ _ _) x is = absurd is
  class_linked (AttributeBody _ _ _ _) x is = absurd is
  class_linked (GroupBody _ _) x is = absurd is
  class_linked BehaviourBody x is = absurd is
  class_linked (ActionBody _ _ _ _ _) x is = absurd is
  class_linked (NotificationBody _ _ _ _ _) x is = absurd is
