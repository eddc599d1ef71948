-- FaultSets: sets of faults, by kind, document and token, and that of what was noted before and the faults of a set the
-- first is kept (docs/PROFILE.md, section 12).
use Rattle.std.specs.Prelude.{◌≡◌, ◌≢◌, ◌⊎◌, ◌↔◌, ℕ, List, [], ◌∷◌, Option, None, Some, true}
use Rattle.gdmo_names.specs.declared.first_fault.LabelFault.{LabelFault as NotedFault}
use Rattle.gdmo_names.specs.DocumentTemplates.{templates}
use Rattle.gdmo_names.specs.DoubleNames.{IsLabelledAgain}
use Rattle.gdmo_names.specs.FirstLabelFault.{LabelFault, IsNoLater}
use Rattle.gdmo_names.specs.FirstLabelFault.LabelFault.{LabelUnknown, KindWrong, LabelDouble}
use Rattle.gdmo_names.specs.LabelMeaning.{Means, reference_token, target}
use Rattle.gdmo_names.specs.Mentions.{Role, Mention, must_be_registered, template_mentions, wanted_kind}
use Rattle.gdmo_names.specs.NotedFaults.{kind_of as noted_kind}
use Rattle.gdmo_names.specs.PartTerms.{Placed, PartTerms, identifier_of, kind_of, label_of}
use Rattle.gdmo_names.specs.TemplateTerms.{ReferenceTerm, TemplateTerm}

abbrev pub FaultSet : Type 1
FaultSet = LabelFault → ℕ → ℕ → Type 0

-- one fault: its kind, its document and its token
abbrev pub ThisFault : LabelFault → ℕ → ℕ → FaultSet
ThisFault its_kind its_document at kind document token =
    (its_kind ≡ kind) × (its_document ≡ document) × (at ≡ token)

-- a fault of one kind at one token of a document, where something is so
abbrev pub OneFault : Type 0 → LabelFault → ℕ → ℕ → FaultSet
OneFault Holds its_kind its_document at kind document token =
    Holds × (its_kind ≡ kind) × (its_document ≡ document) × (at ≡ token)

-- those of two sets, and those of each element of a list
abbrev pub Either : FaultSet → FaultSet → FaultSet
Either One Other kind document token = One kind document token ⊎ Other kind document token

abbrev pub AnyOf : {X : Type 0} → (X → FaultSet) → List X → FaultSet
AnyOf Faults [] kind document token = ⊥
AnyOf Faults (x ∷ xs) kind document token = Faults x kind document token ⊎ AnyOf Faults xs kind document token

-- this fault is kept, or one before it
abbrev pub KeepsOne : Option NotedFault → LabelFault → ℕ → ℕ → Type 0
KeepsOne after kind document token =
    (x : NotedFault) × (after ≡ Some x) × IsNoLater (noted_kind x.kind) x.document x.token kind document token

-- of what was noted before and the faults of a set the first is kept
pub record Notes (Faults : FaultSet) (before after : Option NotedFault) : Type 0 where
  pub there : (x : NotedFault) → after ≡ Some x → (before ≡ Some x) ⊎ Faults (noted_kind x.kind) x.document x.token
  pub kept : (x : NotedFault) → before ≡ Some x → KeepsOne after (noted_kind x.kind) x.document x.token
  pub least : (kind : LabelFault) (document token : ℕ) → Faults kind document token →
      KeepsOne after kind document token

-- the labels of templates of which an earlier one has the same
pub record LabelledTwice (parts : PartTerms) (kind : LabelFault) (document token : ℕ) : Type 0 where
  pub later : Placed
  pub again : IsLabelledAgain parts later
  pub is_in : later.document ≡ document
  pub is_at : (label_of later.template).at ≡ token
  pub is_double : LabelDouble ≡ kind

-- what is wrong with the template that a token means: it is of another kind than the one that is wanted, or it must be
-- registered and isn't
abbrev pub LacksIdentifier : Role → TemplateTerm → Type 0
LacksIdentifier role to = (must_be_registered role ≡ true) × (kind_of to ≡ wanted_kind role) × (identifier_of to ≡ None)

abbrev pub MeaningFaults : Role → TemplateTerm → ℕ → ℕ → FaultSet
MeaningFaults role to document at = Either (OneFault (kind_of to ≢ wanted_kind role) KindWrong document at)
    (OneFault (LacksIdentifier role to) KindWrong document at)

-- the same where it means one, and that it means none
abbrev pub MeantFaults : Option Placed → Role → ℕ → ℕ → FaultSet
MeantFaults None role document at = ThisFault LabelUnknown document at
MeantFaults (Some to) role document at = MeaningFaults role to.template document at

-- what is wrong with a reference in a document
abbrev pub ReferenceFaults : PartTerms → ℕ → Role → ReferenceTerm → FaultSet
ReferenceFaults parts document role reference =
    MeantFaults (target parts document reference) role document (reference_token reference).at

-- the template that a reference means, where it is of the kind that is wanted
abbrev pub TellsMeant : PartTerms → ℕ → Role → ReferenceTerm → Option Placed → Type 0
TellsMeant parts document role reference answer =
    (to : Placed) → (answer ≡ Some to) ↔ Means parts document role reference to

-- what is wrong with the references of one template, and of all
abbrev pub MentionFaults : PartTerms → ℕ → Mention → FaultSet
MentionFaults parts document x = ReferenceFaults parts document x.role x.reference

abbrev pub TemplateFaults : PartTerms → Placed → FaultSet
TemplateFaults parts by = AnyOf (MentionFaults parts by.document) (template_mentions by.template)

abbrev pub FaultsOfTemplates : PartTerms → FaultSet
FaultsOfTemplates parts = AnyOf (TemplateFaults parts) (templates parts)
