-- TargetTables: what is found of templates, with what each of them names, and the numbers of the templates that are
-- meant (X.722, section 8; docs/PROFILE.md, section 12).
use Rattle.std.specs.Prelude.{◌≡◌, ◌≢◌, ℕ, List, Option, All, AllPairs, Contains}
use Rattle.std.specs.declared.alloc.Global.{Global}
use Rattle.std.specs.declared.vec.Vec.{Vec}
use Rattle.gdmo_names.specs.DocumentTemplates.{templates}
use Rattle.gdmo_names.specs.FaultSets.{TellsMeant}
use Rattle.gdmo_names.specs.FoundViews.{AreTemplates, IsReference, found_term, found_views, numbered}
use Rattle.gdmo_names.specs.InStep.{AreEach}
use Rattle.gdmo_names.specs.Mentions.{Mention, template_mentions, wanted_kind}
use Rattle.gdmo_names.specs.PartTerms.{Placed, PartTerms, kind_of, label_of}
use Rattle.gdmo_names.specs.Roles.{role_term}
use Rattle.gdmo_names.specs.TemplateTerms.{TemplateKind, ReferenceTerm}
use Rattle.gdmo_names.specs.TemplateTerms.ReferenceTerm.{ByLabel, InLine}
use Rattle.gdmo_names.specs.declared.found.Found.{Found}
use Rattle.gdmo_names.specs.declared.found.Mention.{Mention as FoundMention}

-- What stands in line in a part of a template is of the kind that is wanted there, as in every text that is read.
abbrev pub Fits : TemplateKind → ReferenceTerm → Type 0
Fits kind (ByLabel label) = Unit {0}
Fits kind (InLine template) = kind_of template ≡ kind

abbrev pub IsFitting : Mention → Type 0
IsFitting x = Fits (wanted_kind x.role) x.reference

abbrev pub AreFitting : PartTerms → Type 0
AreFitting parts = (by : Placed) → Contains (templates parts) by → (x : Mention) →
    Contains (template_mentions by.template) x → IsFitting x

-- what was found to be named in a document is this
pub record IsMention (xs : List Found) (document : ℕ) (found : FoundMention) (x : Mention) : Type 0 where
  pub in_role : role_term found.role ≡ x.role
  pub refers : IsReference xs document found.target x.reference
  pub fits : IsFitting x

-- what a template names was found, in the order of its clauses
abbrev pub HasMentions : List Found → Found → Type 0
HasMentions xs x = AreEach (IsMention xs x.document) x.mentions.items (template_mentions (found_term x))

-- the templates that were found are those of the documents, each with what it names
pub record AreFound (parts : PartTerms) (xs : List Found) : Type 0 where
  pub all : AreTemplates parts xs
  pub mentions : All (HasMentions xs) xs

-- the number of the template that a mention means, where it is of the kind that is wanted
abbrev pub TellsMention : PartTerms → List Found → ℕ → Mention → Option ℕ → Type 0
TellsMention parts xs document x n = TellsMeant parts document x.role x.reference (numbered (found_views xs) n)

-- those of the mentions of a template, in their order
abbrev pub TellsTargets : PartTerms → List Found → Found → Vec (Option ℕ) Global → Type 0
TellsTargets parts xs x own =
    AreEach (TellsMention parts xs x.document) (template_mentions (found_term x)) own.items

-- those of all templates
abbrev pub AreTargets : PartTerms → List Found → List (Vec (Option ℕ) Global) → Type 0
AreTargets parts xs targets = AreEach (TellsTargets parts xs) xs targets

-- Two templates of a document have labels at two places, as in every text that is read. So two templates with two
-- numbers are two.
abbrev pub AreTwo : Placed → Placed → Type 0
AreTwo x y = x.document ≡ y.document → (label_of x.template).at ≢ (label_of y.template).at

abbrev pub ArePlacedApart : PartTerms → Type 0
ArePlacedApart parts = AllPairs AreTwo (templates parts)
