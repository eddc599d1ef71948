-- FixedLaws: in linked parts of documents without a fault of labels no package adds to a group that is FIXED (X.722,
-- section 8.4; docs/PROFILE.md, section 12).
use Rattle.std.specs.Prelude.{◌≡◌, ◌∷◌, [], ℕ, zero, suc, List, Bool, true, false, Some, All, Contains}
use Rattle.std.specs.Prelude.{if◌then◌else◌, refl, slice_get}
use Rattle.std.proofs.Common.{◌∙◌, ap, arith, sym}
use Rattle.std.proofs.lemmas.List.Elements.{All-cons, All-nil}
use Rattle.std.proofs.lemmas.Option.{get_or_from_slice_get, same_Some, slice_get_within}
use Rattle.gdmo_names.specs.DocumentTemplates.{templates}
use Rattle.gdmo_names.specs.FirstLabelFault.{AreFaultless}
use Rattle.gdmo_names.specs.FirstLabelFault.LabelFault.{KindWrong}
use Rattle.gdmo_names.specs.LabelMeaning.{reference_token}
use Rattle.gdmo_names.specs.Mentions.Role.{AddedAttribute, PackageGroup}
use Rattle.gdmo_names.specs.PartTerms.{Placed, PartTerms, body_of}
use Rattle.gdmo_names.specs.TemplateTerms.{BodyTerm, ReferenceTerm, ReferenceTerms, RowTerms, TemplateKind}
use Rattle.gdmo_names.specs.TemplateTerms.BodyTerm.{ActionBody, AttributeBody, BehaviourBody, BindingBody, ClassBody}
use Rattle.gdmo_names.specs.TemplateTerms.BodyTerm.{GroupBody, NotificationBody, PackageBody, ParameterBody}
use Rattle.gdmo_names.specs.TemplateTerms.ReferenceTerms.{NoReferences, Reference}
use Rattle.gdmo_names.specs.TemplateTerms.RowTerms.{NoRows, Row}
use Rattle.gdmo_names.specs.TemplateTerms.TemplateKind.{GroupKind, PackageKind}
use Rattle.gdmo_names.specs.WrongKinds.{IsRow, groups_of, is_fixed}
use Rattle.gdmo_names.specs.WrongKinds.IsRow.{first, later}
use Rattle.gdmo_names.specs.WrongKinds.WrongKindAt.{fixed_group}
use Rattle.gdmo_linking.specs.LinkedTables.{AreLinked, Links, is_kind, of_kind, table}
use Rattle.gdmo_linking.specs.LinkedTables.AreLinked.{no_more}
use Rattle.gdmo_linking.proofs.StepLaws.{each_at, each_from}
use Rattle.linked_parts.specs.declared.linked.Linked.{Linked}
use Rattle.linked_parts.specs.declared.linked.LinkedGroup.{LinkedGroup}
use Rattle.linked_parts.specs.declared.linked.LinkedGroupUse.{LinkedGroupUse}
use Rattle.linked_parts.specs.declared.linked.LinkedPackage.{LinkedPackage}
use Rattle.linked_packages.specs.LinkedPackages.{AreGroupUses, IsPackageOf}
use Rattle.linked_templates.specs.LinkedMembers.{IsGroupOf}
use Rattle.linked_templates.specs.TemplateTables.{IsTemplate}
use Rattle.linked_documents.specs.LinkedParts.{AreLinkedParts}
use Rattle.reference_laws.proofs.PlaceLaws.{later_of}

-- a template of a table stands in the documents
in_table : (kind : TemplateKind) (xs : List Placed) (x : Placed) → Contains (of_kind kind xs) x → Contains xs x
unfolding of_kind
in_table kind [] x has = has
in_table kind (y ∷ ys) x has = by (is_kind kind y) (λ there. later_of y x ys (in_table kind ys x there)) has
  where
    by : (test : Bool) → (Contains (of_kind kind ys) x → Contains (y ∷ ys) x) →
        Contains (if test then y ∷ of_kind kind ys else of_kind kind ys) x → Contains (y ∷ ys) x
    by true further (zero, within, is) = (0, omega arith, is)
    by true further (suc n, within, is) = further (n, omega (arith, within), is)
    by false further there = further there

-- a linked group is FIXED where its template is
same_fixed : (parts : PartTerms) (document : ℕ) (body : BodyTerm) (group : LinkedGroup) →
    IsGroupOf parts document body group → is_fixed body ≡ group.fixed
same_fixed parts document (GroupBody elements fixed) group is = is.1
same_fixed parts document (ClassBody _ _ _) group is = absurd is
same_fixed parts document (PackageBody _ _ _ _ _) group is = absurd is
same_fixed parts document (ParameterBody _ _) group is = absurd is
same_fixed parts document (BindingBody _ _ _ _ _ _ _ _) group is = absurd is
same_fixed parts document (AttributeBody _ _ _ _) group is = absurd is
same_fixed parts document BehaviourBody group is = absurd is
same_fixed parts document (ActionBody _ _ _ _ _) group is = absurd is
same_fixed parts document (NotificationBody _ _ _ _ _) group is = absurd is

none_linked : {parts : PartTerms} {document : ℕ} {ks : List ℕ} →
    AreLinked parts document AddedAttribute NoReferences ks → ks ≡ []
none_linked no_more = refl

-- the use of a group adds nothing where the group is FIXED
abbrev pub AddsNoFixed : Linked → LinkedGroupUse → Type 0
AddsNoFixed linked stated = (group : LinkedGroup) → slice_get linked.groups.items stated.group ≡ Some group →
    group.fixed ≡ true → stated.added.items ≡ []

module _ (parts : PartTerms) (faultless : AreFaultless parts) (linked : Linked)
    (are : AreLinkedParts parts linked) where
  module _ (by : Placed) (stands : Contains (templates parts) by) (groups : RowTerms)
      (has : groups_of (body_of by.template) ≡ Some groups) where
    never_added : (group added : ReferenceTerm) (others : ReferenceTerms) →
        IsRow group (Reference added others) groups → (k : ℕ) → (links : Links parts by.document PackageGroup group k) →
        is_fixed (body_of links.to.template) ≡ true → ⊥
    never_added group added others row k links fixed =
        faultless KindWrong by.document (reference_token group).at (fixed_group (record {
          by = by;
          stands = stands;
          is_in = refl;
          groups = groups;
          has = has;
          added = added;
          others = others;
          row = row;
          to = links.to;
          means = links.means;
          fixed = fixed;
        }) refl)

    added_none : (group : ReferenceTerm) (added : ReferenceTerms) (stated : LinkedGroupUse) →
        IsRow group added groups → Links parts by.document PackageGroup group stated.group →
        AreLinked parts by.document AddedAttribute added stated.added.items → AddsNoFixed linked stated
    added_none group NoReferences stated row links added linked_group at fixed = none_linked added
    added_none group (Reference one others) stated row links added linked_group at fixed =
        let found = each_at (IsTemplate parts (λ y. y.head) (IsGroupOf parts)) (table parts GroupKind)
        linked.groups.items stated.group links.to are.tables.groups links.at in
        absurd (never_added group one others row stated.group links
        (same_fixed parts links.to.document (body_of links.to.template) found.0 found.2.1
        ∙ ap (λ (y : LinkedGroup). y.fixed) (same_Some found.0 linked_group (sym found.1 ∙ at)) ∙ fixed))

    rows_fixed : (rows : RowTerms) (xs : List LinkedGroupUse) →
        ((one : ReferenceTerm) (behind : ReferenceTerms) → IsRow one behind rows → IsRow one behind groups) →
        AreGroupUses parts by.document rows xs → All (AddsNoFixed linked) xs
    rows_fixed NoRows [] within uses = All-nil (AddsNoFixed linked)
    rows_fixed NoRows (x ∷ xs) within uses = absurd uses
    rows_fixed (Row group added rest) [] within uses = absurd uses
    rows_fixed (Row group added rest) (x ∷ xs) within uses =
        All-cons (AddsNoFixed linked) x xs (added_none group added x (within group added first) uses.0 uses.1)
        (rows_fixed rest xs (λ one behind row. within one behind (later row)) uses.2)

  package_fixed : (by : Placed) → Contains (templates parts) by → (body : BodyTerm) → body_of by.template ≡ body →
      (x : LinkedPackage) → IsPackageOf parts by.document body x → All (AddsNoFixed linked) x.groups.items
  package_fixed by stands (PackageBody behaviours uses groups actions notifications) same x is =
      rows_fixed by stands groups (ap groups_of same) groups x.groups.items (λ one behind row. row) is.groups_are
  package_fixed by stands (ClassBody _ _ _) same x is = absurd is
  package_fixed by stands (ParameterBody _ _) same x is = absurd is
  package_fixed by stands (BindingBody _ _ _ _ _ _ _ _) same x is = absurd is
  package_fixed by stands (AttributeBody _ _ _ _) same x is = absurd is
  package_fixed by stands (GroupBody _ _) same x is = absurd is
  package_fixed by stands BehaviourBody same x is = absurd is
  package_fixed by stands (ActionBody _ _ _ _ _) same x is = absurd is
  package_fixed by stands (NotificationBody _ _ _ _ _) same x is = absurd is

  -- so it is in the package at each place
  pub packages_fixed : (k : ℕ) (x : LinkedPackage) → slice_get linked.packages.items k ≡ Some x →
      All (AddsNoFixed linked) x.groups.items
  packages_fixed k x at =
      let found = each_from (IsTemplate parts (λ y. y.head) (IsPackageOf parts)) (table parts PackageKind)
      linked.packages.items k x are.tables.packages at in
      package_fixed found.0 (in_table PackageKind (templates parts) found.0 (
        k,
        slice_get_within (table parts PackageKind) k found.0 found.1,
        get_or_from_slice_get (table parts PackageKind) k found.0 found.0 found.1,
      )) (body_of found.0.template) refl x
      found.2.1
