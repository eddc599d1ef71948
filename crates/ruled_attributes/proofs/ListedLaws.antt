-- ListedLaws: all that a class or a package names in a role stands in what is linked of it (X.722, sections 8.3 and
-- 8.4).
use Rattle.std.specs.Prelude.{◌≡◌, ◌≢◌, ◌⊎◌, ◌<◌, ◌++◌, ◌∷◌, [], ℕ, zero, suc, List, Contains, get_or, length}
use Rattle.std.proofs.Common.{◌∙◌, ap, arith, inl, inr}
use Rattle.std.proofs.Math.Path.{subst}
use Rattle.std.proofs.lemmas.List.Elements.{Contains-append_cases}
use Rattle.gdmo_names.specs.Mentions.{Mention, Role, body_mentions, mention, mentions, row_mentions, stated_mentions}
use Rattle.gdmo_names.specs.Mentions.{use_mentions}
use Rattle.gdmo_names.specs.Mentions.Role.{AddedAttribute, ConditionalPackage, DerivationRule, MandatoryPackage}
use Rattle.gdmo_names.specs.Mentions.Role.{OfBehaviour, OfParameter, PackageAction, PackageAttribute, PackageGroup}
use Rattle.gdmo_names.specs.Mentions.Role.{PackageNotification, Superclass}
use Rattle.gdmo_names.specs.PartTerms.{PartTerms}
use Rattle.gdmo_names.specs.TemplateTerms.{BodyTerm, ReferenceTerm, ReferenceTerms, RowTerms, StatedTerm, UseTerms}
use Rattle.gdmo_names.specs.TemplateTerms.BodyTerm.{ActionBody, AttributeBody, BehaviourBody, BindingBody, ClassBody}
use Rattle.gdmo_names.specs.TemplateTerms.BodyTerm.{GroupBody, NotificationBody, PackageBody, ParameterBody}
use Rattle.gdmo_names.specs.TemplateTerms.ReferenceTerms.{NoReferences, Reference}
use Rattle.gdmo_names.specs.TemplateTerms.RowTerms.{NoRows, Row}
use Rattle.gdmo_names.specs.TemplateTerms.StatedTerm.{ByRule, NotStated, StatedValue}
use Rattle.gdmo_names.specs.TemplateTerms.UseTerms.{NoUses, Use}
use Rattle.gdmo_linking.specs.LinkedTables.{AreLinked, Links}
use Rattle.gdmo_linking.specs.LinkedTables.AreLinked.{another, no_more}
use Rattle.linked_parts.specs.declared.linked.LinkedClass.{LinkedClass}
use Rattle.linked_parts.specs.declared.linked.LinkedPackage.{LinkedPackage}
use Rattle.linked_parts.specs.declared.linked.LinkedUse.{LinkedUse}
use Rattle.linked_packages.specs.LinkedPackages.{AreUses, IsPackageOf}
use Rattle.linked_templates.specs.LinkedTemplates.{IsClassOf}
use Rattle.registered_laws.proofs.TableLaws.{first_of, later_of}

-- ---- references of a role

-- each reference that stands in the role among these has a property
unfoldable pub AreAllSo : Role → (ReferenceTerm → Type 0) → List Mention → Type 0
AreAllSo role P xs = (x : Mention) → Contains xs x → x.role ≡ role → P x.reference

module _ (role : Role) (P : ReferenceTerm → Type 0) where
  nothing_so : AreAllSo role P []
  unfolding AreAllSo
  nothing_so x has named = let w = has.1 in absurd (omega (arith, w))

  both_so : (xs ys : List Mention) → AreAllSo role P xs → AreAllSo role P ys → AreAllSo role P (xs ++ ys)
  unfolding AreAllSo
  both_so xs ys one two x has named = by (Contains-append_cases xs ys x has)
    where
      by : Contains xs x ⊎ Contains ys x → P x.reference
      by (inl here) = one x here named
      by (inr there) = two x there named

  -- one more before the others
  one_so : (y : Mention) (xs : List Mention) → (y.role ≡ role → P y.reference) → AreAllSo role P xs →
      AreAllSo role P (y ∷ xs)
  unfolding AreAllSo
  one_so y xs first others x has named = by has.0 has.1 has.2
    where
      by : (n : ℕ) → n < length (y ∷ xs) → get_or (y ∷ xs) n x ≡ x → P x.reference
      by zero below is = subst (λ (z : Mention). P z.reference) is (first (ap (λ (z : Mention). z.role) is ∙ named))
      by (suc n) below is = others x (n, omega (arith, below), is) named

  -- those of another role
  others_so : (other : Role) (references : ReferenceTerms) → other ≢ role → AreAllSo role P (mentions other references)
  others_so other NoReferences apart = nothing_so
  others_so other (Reference x xs) apart = one_so (mention other x) (mentions other xs) (λ same. absurd (apart same))
      (others_so other xs apart)

  rows_so : (one behind : Role) (rows : RowTerms) → one ≢ role → behind ≢ role →
      AreAllSo role P (row_mentions one behind rows)
  rows_so one behind NoRows apart further = nothing_so
  rows_so one behind (Row x xs rest) apart further = one_so (mention one x)
      (mentions behind xs ++ row_mentions one behind rest) (λ same. absurd (apart same))
      (both_so (mentions behind xs) (row_mentions one behind rest) (others_so behind xs further)
      (rows_so one behind rest apart further))

  -- those of the role itself
  same_so : (parts : PartTerms) (document : ℕ) {references : ReferenceTerms} {ks : List ℕ} →
      ((reference : ReferenceTerm) (k : ℕ) → Contains ks k → Links parts document role reference k → P reference) →
      AreLinked parts document role references ks → AreAllSo role P (mentions role references)
  same_so parts document step no_more = nothing_so
  same_so parts document step (another {x = x} {xs = xs} {k = k} {ks = ks} one rest) =
      one_so (mention role x) (mentions role xs) (λ same. step x k (first_of k ks) one)
      (same_so parts document (λ reference j there links. step reference j (later_of k j ks there) links) rest)

module _ (parts : PartTerms) (document : ℕ) where
  -- ---- classes

  -- the number by which a reference is linked is one of these
  pub record IsListed (role : Role) (ks : List ℕ) (reference : ReferenceTerm) : Type 0 where
    pub k : ℕ
    pub listed : Contains ks k
    pub links : Links parts document role reference k

  row_so : (role : Role) {references : ReferenceTerms} {ks : List ℕ} → AreLinked parts document role references ks →
      AreAllSo role (IsListed role ks) (mentions role references)
  row_so role {ks = ks} are = same_so role (IsListed role ks) parts document
      (λ reference k there links. record { k = k; listed = there; links = links }) are

  pub record IsListedClass (xs : List Mention) (x : LinkedClass) : Type 0 where
    pub superclasses : AreAllSo Superclass (IsListed Superclass x.superclasses.items) xs
    pub mandatory : AreAllSo MandatoryPackage (IsListed MandatoryPackage x.mandatory.items) xs

  pub class_listed : (body : BodyTerm) (x : LinkedClass) → IsClassOf parts document body x →
      IsListedClass (body_mentions body) x
  class_listed (ClassBody superclasses mandatory conditional) x is =
      let above = IsListed Superclass x.superclasses.items in
      let packages = IsListed MandatoryPackage x.mandatory.items in
      let behind = mentions MandatoryPackage mandatory ++ mentions ConditionalPackage conditional in record {
        superclasses = both_so Superclass above (mentions Superclass superclasses) behind
            (row_so Superclass is.superclasses_are)
            (both_so Superclass above (mentions MandatoryPackage mandatory) (mentions ConditionalPackage conditional)
            (others_so Superclass above MandatoryPackage mandatory (λ same. absurd (cc)))
            (others_so Superclass above ConditionalPackage conditional (λ same. absurd (cc))));
        mandatory = both_so MandatoryPackage packages (mentions Superclass superclasses) behind
            (others_so MandatoryPackage packages Superclass superclasses (λ same. absurd (cc)))
            (both_so MandatoryPackage packages (mentions MandatoryPackage mandatory)
            (mentions ConditionalPackage conditional) (row_so MandatoryPackage is.mandatory_are)
            (others_so MandatoryPackage packages ConditionalPackage conditional (λ same. absurd (cc))));
      }
  class_listed (PackageBody _ _ _ _ _) x is = absurd is
  class_listed (ParameterBody _ _) x is = absurd is
  class_listed (BindingBody _ _ _ _ _ _ _ _) x is = absurd is
  class_listed (AttributeBody _ _ _ _) x is = absurd is
  class_listed (GroupBody _ _) x is = absurd is
  class_listed BehaviourBody x is = absurd is
  class_listed (ActionBody _ _ _ _ _) x is = absurd is
  class_listed (NotificationBody _ _ _ _ _) x is = absurd is

  -- ---- packages

  -- one of these uses states the attribute
  pub record IsUsed (xs : List LinkedUse) (reference : ReferenceTerm) : Type 0 where
    pub stated : LinkedUse
    pub listed : Contains xs stated
    pub links : Links parts document PackageAttribute reference stated.attribute

  module _ (P : ReferenceTerm → Type 0) where
    stated_so : (stated : StatedTerm) → AreAllSo PackageAttribute P (stated_mentions stated)
    stated_so NotStated = nothing_so PackageAttribute P
    stated_so (StatedValue name) = nothing_so PackageAttribute P
    stated_so (ByRule rule) = one_so PackageAttribute P (mention DerivationRule rule) [] (λ same. absurd (cc))
        (nothing_so PackageAttribute P)

    uses_so : (uses : UseTerms) (xs : List LinkedUse) → ((reference : ReferenceTerm) (x : LinkedUse) →
        Contains xs x → Links parts document PackageAttribute reference x.attribute → P reference) →
        AreUses parts document uses xs → AreAllSo PackageAttribute P (use_mentions uses)
    uses_so NoUses xs step are = nothing_so PackageAttribute P
    uses_so (Use attribute default initial permitted required words parameters rest) [] step are = absurd are
    uses_so (Use attribute default initial permitted required words parameters rest) (x ∷ xs) step are =
        let behind = mentions OfParameter parameters ++ use_mentions rest in
        let further = stated_mentions initial ++ behind in
        one_so PackageAttribute P (mention PackageAttribute attribute) (stated_mentions default ++ further)
        (λ same. step attribute x (first_of x xs) are.0.is_attribute)
        (both_so PackageAttribute P (stated_mentions default) further (stated_so default)
        (both_so PackageAttribute P (stated_mentions initial) behind (stated_so initial)
        (both_so PackageAttribute P (mentions OfParameter parameters) (use_mentions rest)
        (others_so PackageAttribute P OfParameter parameters (λ same. absurd (cc)))
        (uses_so rest xs (λ reference y there links. step reference y (later_of x y xs there) links) are.1))))

  pub package_listed : (body : BodyTerm) (x : LinkedPackage) → IsPackageOf parts document body x →
      AreAllSo PackageAttribute (IsUsed x.attributes.items) (body_mentions body)
  package_listed (PackageBody behaviours uses groups actions notifications) x is =
      let P = IsUsed x.attributes.items in
      let done = row_mentions PackageAction OfParameter actions
      ++ row_mentions PackageNotification OfParameter notifications in
      let behind = row_mentions PackageGroup AddedAttribute groups ++ done in
      both_so PackageAttribute P (mentions OfBehaviour behaviours) (use_mentions uses ++ behind)
      (others_so PackageAttribute P OfBehaviour behaviours (λ same. absurd (cc)))
      (both_so PackageAttribute P (use_mentions uses) behind (uses_so P uses x.attributes.items
      (λ reference stated there links. record { stated = stated; listed = there; links = links }) is.attributes_are)
      (both_so PackageAttribute P (row_mentions PackageGroup AddedAttribute groups) done
      (rows_so PackageAttribute P PackageGroup AddedAttribute groups (λ same. absurd (cc)) (λ same. absurd (cc)))
      (both_so PackageAttribute P (row_mentions PackageAction OfParameter actions)
      (row_mentions PackageNotification OfParameter notifications)
      (rows_so PackageAttribute P PackageAction OfParameter actions (λ same. absurd (cc)) (λ same. absurd (cc)))
      (rows_so PackageAttribute P PackageNotification OfParameter notifications (λ same. absurd (cc))
      (λ same. absurd (cc))))))
  package_listed (ClassBody _ _ _) x is = absurd is
  package_listed (ParameterBody _ _) x is = absurd is
  package_listed (BindingBody _ _ _ _ _ _ _ _) x is = absurd is
  package_listed (AttributeBody _ _ _ _) x is = absurd is
  package_listed (GroupBody _ _) x is = absurd is
  package_listed BehaviourBody x is = absurd is
  package_listed (ActionBody _ _ _ _ _) x is = absurd is
  package_listed (NotificationBody _ _ _ _ _) x is = absurd is
