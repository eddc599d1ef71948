-- MeaningLaws: the template that a reference means, as it is found by its number, and what is wrong with it.
use Rattle.std.proofs.Common.{◌≡◌, ◌∙◌, ℕ, List, Option, None, Some, refl, sym, ap, option_map, slice_get}
use Rattle.std.specs.Borrow.{Bor}
use Rattle.std.specs.Prelude.{Bool, true, false, ◌≢◌}
use Rattle.std.proofs.Common.{inl, inr}
use Rattle.std.proofs.lemmas.Bool.{true≢false}
use Rattle.std.proofs.Math.Path.{subst}
use Rattle.indexmap.specs.IndexMap.{IndexMap}
use Rattle.token_grammar.specs.declared.token.Token.{Token}
use Rattle.gdmo_names.specs.declared.first_fault.LabelFault.{LabelFault as NotedFault}
use Rattle.gdmo_names.specs.declared.found.Found.{Found}
use Rattle.gdmo_names.specs.declared.found.Target.{Target}
use Rattle.gdmo_names.specs.declared.found.Target.TheVariants.{Label, InLine}
use Rattle.gdmo_names.specs.declared.roles.TemplateKind.{TemplateKind as CodeKind}
use Rattle.gdmo_names.specs.declared.roles.TemplateKind.TheVariants as kinds
use Rattle.gdmo_names.specs.FaultSets.{LacksIdentifier, MeaningFaults, MeantFaults, Notes, OneFault}
use Rattle.gdmo_names.specs.FaultSets.{ReferenceFaults, TellsMeant, ThisFault}
use Rattle.gdmo_names.specs.FirstLabelFault.LabelFault.{KindWrong}
use Rattle.gdmo_names.specs.FoundViews.{AreLabels, AreTemplates, IsReference, Pointed, found_views, numbered, pointed}
use Rattle.gdmo_names.specs.FoundViews.{target_number, target_view}
use Rattle.gdmo_names.specs.FoundViews.Pointed.{AtLabel, AtTemplate}
use Rattle.gdmo_names.specs.LabelMeaning.{label_meaning, reference_token, target}
use Rattle.gdmo_names.specs.Mentions.{Role, wanted_kind}
use Rattle.gdmo_names.specs.PartTerms.{Placed, PartTerms, kind_of, label_of}
use Rattle.gdmo_names.specs.Roles.{kind_term}
use Rattle.gdmo_names.specs.TemplateTerms.{ReferenceTerm, TemplateKind, TemplateTerm}
use Rattle.gdmo_names.specs.TemplateTerms.TemplateKind.{ClassKind, PackageKind, ParameterKind, BindingKind}
use Rattle.gdmo_names.specs.TemplateTerms.TemplateKind.{AttributeKind, GroupKind, BehaviourKind, ActionKind}
use Rattle.gdmo_names.specs.TemplateTerms.TemplateKind.{NotificationKind}
use Rattle.gdmo_names.specs.TemplateTerms.ReferenceTerm.{ByLabel, InLine as InLineTerm}
use Rattle.gdmo_names.proofs.NotingLaws.{left_noted, none_noted, one_there, right_noted, some_is}

-- ---- kinds are told apart

abbrev code_kind : TemplateKind → CodeKind
code_kind ClassKind = kinds.Class
code_kind PackageKind = kinds.Package
code_kind ParameterKind = kinds.Parameter
code_kind BindingKind = kinds.Binding
code_kind AttributeKind = kinds.Attribute
code_kind GroupKind = kinds.Group
code_kind BehaviourKind = kinds.Behaviour
code_kind ActionKind = kinds.Action
code_kind NotificationKind = kinds.Notification

kind_back : (k : CodeKind) → code_kind (kind_term k) ≡ k
kind_back kinds.Class = refl
kind_back kinds.Package = refl
kind_back kinds.Parameter = refl
kind_back kinds.Binding = refl
kind_back kinds.Attribute = refl
kind_back kinds.Group = refl
kind_back kinds.Behaviour = refl
kind_back kinds.Action = refl
kind_back kinds.Notification = refl

pub kind_is : (a b : CodeKind) → kind_term a ≡ kind_term b → a ≡ b
kind_is a b is = sym (kind_back a) ∙ ap code_kind is ∙ kind_back b

-- ---- the template that a reference means

abbrev label_at : Token → Pointed → Token
label_at other (AtLabel label) = label
label_at other (AtTemplate to) = other

abbrev placed_at : Placed → Pointed → Placed
placed_at other (AtLabel label) = other
placed_at other (AtTemplate to) = to

abbrev is_template : Pointed → Bool
is_template (AtLabel label) = false
is_template (AtTemplate to) = true

pointed_is : (x y : Pointed) → Some x ≡ Some y → x ≡ y
pointed_is x y is = some_is x y is

in_line : (o : Option Placed) (p : Placed) → option_map AtTemplate o ≡ Some (AtTemplate p) → o ≡ Some p
in_line None p is = absurd (cc)
in_line (Some q) p is = ap (λ x. Some (placed_at q x)) (pointed_is (AtTemplate q) (AtTemplate p) is)

no_label : (o : Option Placed) (label : Token) → option_map AtTemplate o ≡ Some (AtLabel label) → ⊥
no_label None label is = absurd (cc)
no_label (Some q) label is =
    true≢false (ap is_template (pointed_is (AtTemplate q) (AtLabel label) is))

pub target_is : {S : Type 0} (parts : PartTerms) (xs : List Found) (table : IndexMap (Bor (List ℕ)) ℕ S) (document : ℕ)
    (at : Target) (reference : ReferenceTerm) → AreTemplates parts xs → AreLabels parts xs table →
    IsReference xs document at reference →
    numbered (found_views xs) (target_number table at) ≡ target parts document reference
unfolding target
target_is parts xs table document (Label label) (ByLabel named) are tells is = tells label.now.text ∙
    ap (λ (t : Token). label_meaning parts t.text)
    (ap (label_at named) (pointed_is (AtLabel label.now) (AtLabel named) is))
target_is parts xs table document (Label label) (InLineTerm template) are tells is =
    absurd (true≢false (sym (ap is_template (pointed_is (AtLabel label.now) (AtTemplate _) is))))
target_is parts xs table document (InLine n) (ByLabel named) are tells is =
    absurd (no_label (slice_get (found_views xs) n) named is)
target_is parts xs table document (InLine n) (InLineTerm template) are tells is =
    in_line (slice_get (found_views xs) n) (record { document = document; template = template }) is

-- the token of a reference in line is that of the template
pub token_in_line : (views : List Placed) (document n : ℕ) (reference : ReferenceTerm) →
    target_view views (InLine n) ≡ Some (pointed document reference) →
    option_map (λ (p : Placed). label_of p.template) (slice_get views n) ≡ Some (reference_token reference)
token_in_line views document n (ByLabel named) is = absurd (no_label (slice_get views n) named is)
token_in_line views document n (InLineTerm template) is = ap (option_map (λ (p : Placed). label_of p.template))
    (in_line (slice_get views n) (record { document = document; template = template }) is)

pub token_by_label : (views : List Placed) (document : ℕ) (label : Token) (reference : ReferenceTerm) →
    Some (AtLabel label) ≡ Some (pointed document reference) → Some label ≡ Some (reference_token reference)
token_by_label views document label (ByLabel named) is =
    ap (λ x. Some (label_at named x)) (pointed_is (AtLabel label) (AtLabel named) is)
token_by_label views document label (InLineTerm template) is =
    absurd (true≢false (sym (ap is_template (pointed_is (AtLabel label) (AtTemplate _) is))))

-- ---- what is answered of it

pub means_one : (parts : PartTerms) (document : ℕ) (role : Role) (reference : ReferenceTerm) (answer : Option Placed)
    (x : Placed) → target parts document reference ≡ Some x → kind_of x.template ≡ wanted_kind role →
    answer ≡ Some x → TellsMeant parts document role reference answer
means_one parts document role reference answer x is kind told to = (
  λ tells. (let same = some_is x to (sym told ∙ tells) in record {
    is_target = is ∙ ap Some same;
    of_kind = subst (λ (y : Placed). kind_of y.template ≡ wanted_kind role) same kind;
  }),
  λ means. told ∙ sym is ∙ means.is_target,
)

pub means_other : (parts : PartTerms) (document : ℕ) (role : Role) (reference : ReferenceTerm) (x : Placed) →
    target parts document reference ≡ Some x → ¬ (kind_of x.template ≡ wanted_kind role) →
    TellsMeant parts document role reference None
means_other parts document role reference x is other to = (
  λ tells. absurd (cc),
  λ means. absurd (other (subst (λ (y : Placed). kind_of y.template ≡ wanted_kind role)
      (sym (some_is x to (sym is ∙ means.is_target))) means.of_kind)),
)

pub means_nothing : (parts : PartTerms) (document : ℕ) (role : Role) (reference : ReferenceTerm) →
    target parts document reference ≡ None → TellsMeant parts document role reference None
means_nothing parts document role reference is to = (
  λ tells. absurd (cc),
  λ means. absurd (some_none to (sym is ∙ means.is_target)),
)
  where
    some_none : (y : Placed) → None ≡ Some y → ⊥
    some_none y h = absurd (cc)

-- ---- what is noted of it

pub other_noted : (role : Role) (to : TemplateTerm) (document at : ℕ) (before after : Option NotedFault) →
    ¬ (kind_of to ≡ wanted_kind role) → Notes (ThisFault KindWrong document at) before after →
    Notes (MeaningFaults role to document at) before after
other_noted role to document at before after other h =
    left_noted (OneFault (kind_of to ≢ wanted_kind role) KindWrong document at)
    (OneFault (LacksIdentifier role to) KindWrong document at) (λ k d t fault. other fault.0.1) (one_there other h)

pub lacking_noted : (role : Role) (to : TemplateTerm) (document at : ℕ) (before after : Option NotedFault) →
    LacksIdentifier role to → Notes (ThisFault KindWrong document at) before after →
    Notes (MeaningFaults role to document at) before after
lacking_noted role to document at before after lacks h =
    right_noted (OneFault (kind_of to ≢ wanted_kind role) KindWrong document at)
    (OneFault (LacksIdentifier role to) KindWrong document at) (λ k d t fault. fault.0 lacks.1) (one_there lacks h)

pub good_noted : (role : Role) (to : TemplateTerm) (document at : ℕ) (before : Option NotedFault) →
    kind_of to ≡ wanted_kind role → ¬ (LacksIdentifier role to) →
    Notes (MeaningFaults role to document at) before before
good_noted role to document at before kind has = none_noted (MeaningFaults role to document at) before
    (λ k d t fault. elim fault as (λ _. ⊥) [
      | inl here ↦ here.0 kind
      | inr here ↦ has here.0
    ])

-- the same as what is wrong with the reference
pub reference_noted : (parts : PartTerms) (document at : ℕ) (role : Role) (reference : ReferenceTerm)
    (meant : Option Placed) (before after : Option NotedFault) → target parts document reference ≡ meant →
    at ≡ (reference_token reference).at → Notes (MeantFaults meant role document at) before after →
    Notes (ReferenceFaults parts document role reference) before after
reference_noted parts document at role reference meant before after is at_is h =
    subst (λ a. Notes (MeantFaults (target parts document reference) role document a) before after) at_is
    (subst (λ m. Notes (MeantFaults m role document at) before after) (sym is) h)

pub token_at : (o : Option (Bor Token)) (t : Bor Token) (r : Token) → o ≡ Some t →
    option_map (λ (x : Bor Token). x.now) o ≡ Some r → t.now.at ≡ r.at
token_at o t r is told = ap (λ (x : Token). x.at)
    (some_is t.now r (ap (option_map (λ (x : Bor Token). x.now)) (sym is) ∙ told))
