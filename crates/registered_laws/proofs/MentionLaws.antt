-- MentionLaws: what is linked of references: a template of a kind that is always registered is, and so is an attribute
-- where it must be.
use Rattle.std.specs.Prelude.{◌≡◌, ◌++◌, ◌∷◌, ℕ, List, true, Option, None, Some, All, Contains, refl, slice_get}
use Rattle.std.proofs.Common.{◌∙◌, ap}
use Rattle.std.proofs.Math.Path.{subst}
use Rattle.std.proofs.lemmas.List.Elements.{All-cons, All-nil, Contains-append_left, Contains-append_right}
use Rattle.gdmo_names.specs.DocumentTemplates.{templates}
use Rattle.gdmo_names.specs.FirstLabelFault.{AreFaultless}
use Rattle.gdmo_names.specs.FirstLabelFault.LabelFault.{KindWrong}
use Rattle.gdmo_names.specs.LabelMeaning.{Means, reference_token}
use Rattle.gdmo_names.specs.Mentions.{Mention, Role, mention, mentions, must_be_registered, wanted_kind}
use Rattle.gdmo_names.specs.PartTerms.{Placed, PartTerms, identifier_of}
use Rattle.gdmo_names.specs.InStep.{AreEach}
use Rattle.gdmo_names.specs.References.{Refers}
use Rattle.gdmo_names.specs.TemplateTerms.{BodyTerm, IdentifierTerm, ReferenceTerm, ReferenceTerms, TemplateKind}
use Rattle.gdmo_names.specs.WrongKinds.WrongKindAt.{unregistered}
use Rattle.gdmo_linking.specs.LinkedTables.{AreLinked, Links, table}
use Rattle.gdmo_linking.specs.LinkedTables.AreLinked.{another, no_more}
use Rattle.gdmo_linking.proofs.StepLaws.{each_at}
use Rattle.linked_parts.specs.declared.linked.LinkedHead.{LinkedHead}
use Rattle.linked_templates.specs.TemplateTables.{IsTemplate}
use Rattle.schema_records.specs.RegisteredParts.{IsRegisteredAt}
use Rattle.registered_laws.specs.RegisteredKinds.{AreRegisteredKinds, is_always_registered}
use Rattle.registered_laws.proofs.TableLaws.{first_of, later_of, registered_at, stands_at}

-- ---- references in a row

pub all_linked : (P : ℕ → Type 0) (parts : PartTerms) (document : ℕ) (role : Role) {references : ReferenceTerms}
    {ks : List ℕ} → ((reference : ReferenceTerm) (k : ℕ) →
    Contains (mentions role references) (mention role reference) → Links parts document role reference k → P k) →
    AreLinked parts document role references ks → All P ks
all_linked P parts document role step no_more = All-nil P
all_linked P parts document role step (another {x = x} {xs = xs} {k = k} {ks = ks} one rest) =
    All-cons P k ks (step x k (first_of (mention role x) (mentions role xs)) one)
    (all_linked P parts document role
    (λ reference j names. step reference j
    (later_of (mention role x) (mention role reference) (mentions role xs) names))
    rest)

-- what a template names stands in a document
abbrev pub AreReferred : PartTerms → ℕ → List Mention → Type 0
AreReferred parts document xs = (x : Mention) → Contains xs x → Refers parts document x.role x.reference

pub referred_left : (parts : PartTerms) (document : ℕ) (xs ys : List Mention) →
    AreReferred parts document (xs ++ ys) → AreReferred parts document xs
referred_left parts document xs ys all x has = all x (Contains-append_left xs ys x has)

pub referred_right : (parts : PartTerms) (document : ℕ) (xs ys : List Mention) →
    AreReferred parts document (xs ++ ys) → AreReferred parts document ys
referred_right parts document xs ys all x has = all x (Contains-append_right xs ys x has)

pub referred_rest : (parts : PartTerms) (document : ℕ) (y : Mention) (xs : List Mention) →
    AreReferred parts document (y ∷ xs) → AreReferred parts document xs
referred_rest parts document y xs all x has = all x (later_of y x xs has)

-- ---- places of tables

module _ (parts : PartTerms) where
  -- an attribute that must be registered is
  identifier_there : AreFaultless parts → (document : ℕ) (role : Role) (reference : ReferenceTerm) (to : Placed) →
      must_be_registered role ≡ true → Refers parts document role reference → Means parts document role reference to →
      (own : IdentifierTerm) × (identifier_of to.template ≡ Some own)
  identifier_there faultless document role reference to must refers means = by (identifier_of to.template) refl
    where
      by : (stated : Option IdentifierTerm) → identifier_of to.template ≡ stated →
          (own : IdentifierTerm) × (identifier_of to.template ≡ Some own)
      by (Some own) is = (own, is)
      by None is = absurd (faultless KindWrong document (reference_token reference).at (unregistered (record {
        role = role;
        must = must;
        refers = refers;
        to = to;
        means = means;
        unregistered = is;
      }) refl))

  module _ {L : Type 0} (head : L → LinkedHead) (is : ℕ → BodyTerm → L → Type 0) (kind : TemplateKind) (ys : List L)
      (each : AreEach (IsTemplate parts head is) (table parts kind) ys) where
    at_kind : {document : ℕ} {role : Role} {reference : ReferenceTerm} {k : ℕ} → wanted_kind role ≡ kind →
        (links : Links parts document role reference k) → slice_get (table parts kind) k ≡ Some links.to
    at_kind {k = k} wanted links = subst (λ z. slice_get (table parts z) k ≡ Some links.to) wanted links.at

    pub kind_place : AreRegisteredKinds parts → is_always_registered kind ≡ true → {document : ℕ} {role : Role}
        {reference : ReferenceTerm} {k : ℕ} → wanted_kind role ≡ kind → Links parts document role reference k →
        IsRegisteredAt head ys k
    kind_place kinds always {k = k} wanted links =
        let at = at_kind wanted links in
        let stands = stands_at kind (templates parts) k links.to at in
        let own = kinds links.to stands.stands (ap is_always_registered stands.of_kind ∙ always) in
        registered_at parts head is (table parts kind) ys k links.to own.0 each at own.1

    pub role_place : AreFaultless parts → {document : ℕ} {role : Role} {reference : ReferenceTerm} {k : ℕ} →
        wanted_kind role ≡ kind → must_be_registered role ≡ true → Refers parts document role reference →
        Links parts document role reference k → IsRegisteredAt head ys k
    role_place faultless {document} {role} {reference} {k} wanted must refers links =
        let own = identifier_there faultless document role reference links.to must refers links.means in
        registered_at parts head is (table parts kind) ys k links.to own.0 each (at_kind wanted links) own.1

    pub is_there : {document : ℕ} {role : Role} {reference : ReferenceTerm} {k : ℕ} → wanted_kind role ≡ kind →
        Links parts document role reference k → (y : L) × (slice_get ys k ≡ Some y)
    is_there {k = k} wanted links =
        let found = each_at (IsTemplate parts head is) (table parts kind) ys k links.to each (at_kind wanted links) in
        (found.0, found.1)
