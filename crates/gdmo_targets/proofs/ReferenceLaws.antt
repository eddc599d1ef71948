-- ReferenceLaws: what is noted of references is what the sentences say of unknown labels and wrong kinds.
use Rattle.std.proofs.Common.{◌≡◌, ◌<◌, ◌∙◌, ℕ, zero, suc, List, [], ◌∷◌, Option, None, Some, refl, sym, ap}
use Rattle.std.proofs.Common.{arith, get_or, inl, inr, length}
use Rattle.std.specs.Prelude.{◌≢◌, Contains, true}
use Rattle.std.proofs.Math.Path.{subst}
use Rattle.token_grammar.specs.declared.token.Token.{Token}
use Rattle.gdmo_names.specs.declared.found.Found.{Found}
use Rattle.gdmo_names.specs.declared.found.Mention.{Mention as FoundMention}
use Rattle.gdmo_names.specs.DocumentTemplates.{templates}
use Rattle.gdmo_names.specs.FaultSets.{AnyOf, FaultSet, FaultsOfTemplates, MeantFaults, MentionFaults}
use Rattle.gdmo_names.specs.FaultSets.{ReferenceFaults, TemplateFaults}
use Rattle.gdmo_names.specs.FirstLabelFault.{HasFault, LabelFault}
use Rattle.gdmo_names.specs.FirstLabelFault.LabelFault.{KindWrong, LabelUnknown}
use Rattle.gdmo_names.specs.FoundViews.{found_term, found_view, found_views}
use Rattle.gdmo_names.specs.InStep.{AreEach}
use Rattle.gdmo_names.specs.LabelMeaning.{Means, label_meaning, reference_token, target}
use Rattle.gdmo_names.specs.Mentions.{Role, Mention, mention, must_be_registered, template_mentions, wanted_kind}
use Rattle.gdmo_names.specs.PartTerms.{Placed, PartTerms, identifier_of, kind_of}
use Rattle.gdmo_names.specs.References.{Refers}
use Rattle.gdmo_names.specs.References.Refers.{by_template}
use Rattle.gdmo_names.specs.TargetTables.{AreFitting, AreFound, Fits, HasMentions, IsFitting, IsMention}
use Rattle.gdmo_names.specs.TemplateTerms.{ReferenceTerm}
use Rattle.gdmo_names.specs.TemplateTerms.ReferenceTerm.{ByLabel, InLine}
use Rattle.gdmo_names.specs.UnknownLabels.UnknownLabelAt.{template_label}
use Rattle.gdmo_names.specs.WrongKinds.WrongKindAt.{other_kind, unregistered}
use Rattle.gdmo_names.proofs.NotingLaws.{some_is}

-- ---- elements of a list

pub any_in : {X : Type 0} (Faults : X → FaultSet) (xs : List X) (x : X) → Contains xs x → (kind : LabelFault)
    (document token : ℕ) → Faults x kind document token → AnyOf Faults xs kind document token
any_in {X} Faults xs x stands kind document token fault = at xs stands.0 stands.1 stands.2
  where
    at : (ys : List X) (n : ℕ) → n < length ys → get_or ys n x ≡ x → AnyOf Faults ys kind document token
    at [] n below is = absurd (omega (arith, below))
    at (y ∷ ys) zero below is = inl (subst (λ z. Faults z kind document token) (sym is) fault)
    at (y ∷ ys) (suc n) below is = inr (at ys n (omega (arith, below)) is)

pub any_out : {X : Type 0} (Faults : X → FaultSet) (xs : List X) (kind : LabelFault) (document token : ℕ) →
    AnyOf Faults xs kind document token → (x : X) × (Contains xs x) × Faults x kind document token
any_out Faults [] kind document token fault = absurd fault
any_out Faults (y ∷ ys) kind document token (inl here) = (y, (0, omega arith, refl), here)
any_out Faults (y ∷ ys) kind document token (inr behind) =
    let found = any_out Faults ys kind document token behind in
    (found.0, (suc found.1.0, omega (arith, found.1.1), found.1.2), found.2)

-- ---- one reference

-- a fault of this kind, in this document, at this token
has_at : (parts : PartTerms) (one kind : LabelFault) (its document at token : ℕ) → HasFault parts one its at →
    one ≡ kind → its ≡ document → at ≡ token → HasFault parts kind document token
has_at parts one kind its document at token fault kind_is document_is token_is =
    subst (λ k. HasFault parts k document token) kind_is (subst (λ d. HasFault parts one d token) document_is
    (subst (λ t. HasFault parts one its t) token_is fault))

other_at : (parts : PartTerms) (document : ℕ) (role : Role) (reference : ReferenceTerm) (to : Placed) →
    Refers parts document role reference → Fits (wanted_kind role) reference →
    target parts document reference ≡ Some to → kind_of to.template ≢ wanted_kind role →
    HasFault parts KindWrong document (reference_token reference).at
unfolding target
other_at parts document role (ByLabel label) to refers fits is other =
    other_kind (record { role = role; refers = refers; to = to; means = is; other = other }) refl
other_at parts document role (InLine template) to refers fits is other =
    absurd (other (ap (λ (p : Placed). kind_of p.template) (sym (some_is _ to is)) ∙ fits))

pub reference_fault : (parts : PartTerms) (document : ℕ) (role : Role) (reference : ReferenceTerm) →
    Refers parts document role reference → Fits (wanted_kind role) reference → (kind : LabelFault) (its token : ℕ) →
    ReferenceFaults parts document role reference kind its token → HasFault parts kind its token
unfolding target
reference_fault parts document role reference refers fits kind its token fault =
    by (target parts document reference) refl fault
  where
    unknown : (one : ReferenceTerm) → Refers parts document role one → target parts document one ≡ None →
        HasFault parts LabelUnknown document (reference_token one).at
    unknown (ByLabel label) names is = template_label names is refl
    unknown (InLine template) names is = absurd (cc)

    by : (meant : Option Placed) → target parts document reference ≡ meant →
        MeantFaults meant role document (reference_token reference).at kind its token → HasFault parts kind its token
    by None is here = has_at parts LabelUnknown kind document its (reference_token reference).at token (unknown reference refers is) here.0 here.1
        here.2
    by (Some to) is (inl here) = has_at parts KindWrong kind document its (reference_token reference).at token
        (other_at parts document role reference to refers fits is here.0) here.1 here.2 here.3
    by (Some to) is (inr here) = has_at parts KindWrong kind document its (reference_token reference).at token
        (unregistered (record {
          role = role;
          must = here.0.0;
          refers = refers;
          to = to;
          means = record { is_target = is; of_kind = here.0.1 };
          unregistered = here.0.2;
        }) refl) here.1 here.2 here.3

-- the label means nothing
pub unknown_noted : (parts : PartTerms) (document : ℕ) (role : Role) (label : Token) →
    label_meaning parts label.text ≡ None →
    ReferenceFaults parts document role (ByLabel label) LabelUnknown document label.at
unfolding target
unknown_noted parts document role label is =
    subst (λ meant. MeantFaults meant role document label.at LabelUnknown document label.at) (sym is)
    (refl, refl, refl)

-- it means a template of another kind
pub other_noted : (parts : PartTerms) (document : ℕ) (role : Role) (label : Token) (to : Placed) →
    label_meaning parts label.text ≡ Some to → kind_of to.template ≢ wanted_kind role →
    ReferenceFaults parts document role (ByLabel label) KindWrong document label.at
unfolding target
other_noted parts document role label to is other =
    subst (λ meant. MeantFaults meant role document label.at KindWrong document label.at) (sym is)
    (inl (other, refl, refl, refl))

-- it means one that must be registered and isn't
pub unregistered_noted : (parts : PartTerms) (document : ℕ) (role : Role) (reference : ReferenceTerm) (to : Placed) →
    must_be_registered role ≡ true → Means parts document role reference to → identifier_of to.template ≡ None →
    ReferenceFaults parts document role reference KindWrong document (reference_token reference).at
unregistered_noted parts document role reference to must means none =
    subst (λ meant. MeantFaults meant role document (reference_token reference).at KindWrong document
    (reference_token reference).at) (sym means.is_target) (inr ((must, means.of_kind, none), refl, refl, refl))

-- ---- the references of all templates

pub template_fault : (parts : PartTerms) → AreFitting parts → (kind : LabelFault) (document token : ℕ) →
    FaultsOfTemplates parts kind document token → HasFault parts kind document token
template_fault parts fitting kind document token fault =
    let by = any_out (TemplateFaults parts) (templates parts) kind document token fault in
    let one = any_out (MentionFaults parts by.0.document) (template_mentions by.0.template) kind document token by.2 in
    reference_fault parts by.0.document one.0.role one.0.reference (by_template by.1 one.1)
    (fitting by.0 by.1 one.0 one.1) kind document token one.2

pub by_template_noted : (parts : PartTerms) (by : Placed) (role : Role) (reference : ReferenceTerm) →
    Contains (templates parts) by → Contains (template_mentions by.template) (mention role reference) →
    (kind : LabelFault) (document token : ℕ) →
    ReferenceFaults parts by.document role reference kind document token →
    FaultsOfTemplates parts kind document token
by_template_noted parts by role reference stands names kind document token fault =
    any_in (TemplateFaults parts) (templates parts) by stands kind document token
    (any_in (MentionFaults parts by.document) (template_mentions by.template) (mention role reference) names kind
    document token fault)

-- ---- what stands in line is of its kind

each_fits : (xs : List Found) (document : ℕ) (own : List FoundMention) (named : List Mention) →
    AreEach (IsMention xs document) own named → (n : ℕ) (x : Mention) → n < length named → get_or named n x ≡ x →
    IsFitting x
each_fits xs document own [] h n x below is = absurd (omega (arith, below))
each_fits xs document [] (y ∷ ys) h n x below is = absurd h
each_fits xs document (m ∷ ms) (y ∷ ys) h zero x below is = subst IsFitting is h.0.fits
each_fits xs document (m ∷ ms) (y ∷ ys) h (suc n) x below is =
    each_fits xs document ms ys h.1 n x (omega (arith, below)) is

view_at : (xs : List Found) (n : ℕ) (by : Placed) → n < length (found_views xs) → get_or (found_views xs) n by ≡ by →
    (x : Found) × (found_view x ≡ by) × (n < length xs) × (get_or xs n x ≡ x)
view_at [] n by below is = absurd (omega (arith, below))
view_at (x ∷ xs) zero by below is = (x, is, omega arith, refl)
view_at (x ∷ xs) (suc n) by below is = let found = view_at xs n by (omega (arith, below)) is in
    (found.0, found.1, omega (arith, found.2), found.3)

pub are_fitting : (parts : PartTerms) (xs : List Found) → AreFound parts xs → AreFitting parts
are_fitting parts xs found by stands x names =
    let inside = subst (λ ys. Contains ys by) (sym found.all) stands in
    let at = view_at xs inside.0 by inside.1 inside.2 in
    let has = subst (HasMentions xs) at.3 (found.mentions inside.0 at.0 at.2) in
    let named = subst (λ (p : Placed). Contains (template_mentions p.template) x) (sym at.1) names in
    each_fits xs at.0.document at.0.mentions.items (template_mentions (found_term at.0)) has named.0 x named.1 named.2
