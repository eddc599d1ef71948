-- FindingSteps: what is found of templates when a further part of a text is looked through: the templates in line behind
-- those that were found before, each with what it names (X.722, section 8; docs/PROFILE.md, section 12).
use Rattle.std.specs.Prelude.{◌≡◌, ℕ, List, [], ◌∷◌, ◌++◌, map, length}
use Rattle.std.specs.declared.alloc.Global.{Global}
use Rattle.std.specs.declared.vec.Vec.{Vec}
use Rattle.gdmo_names.specs.DocumentTemplates.{in_reference, in_references, in_template}
use Rattle.gdmo_names.specs.FoundViews.{IsReference, found_view, found_views}
use Rattle.gdmo_names.specs.InStep.{AreAll, AreEach}
use Rattle.gdmo_names.specs.Mentions.{Role, Mention, mentions}
use Rattle.gdmo_names.specs.PartTerms.{Placed}
use Rattle.gdmo_names.specs.TargetTables.{HasMentions, IsMention}
use Rattle.gdmo_names.specs.TemplateTerms.{ReferenceTerm, ReferenceTerms, TemplateTerm}
use Rattle.gdmo_names.specs.declared.found.Finding.{Finding}
use Rattle.gdmo_names.specs.declared.found.Found.{Found}
use Rattle.gdmo_names.specs.declared.found.Mention.{Mention as FoundMention}
use Rattle.gdmo_names.specs.declared.found.Target.{Target}

-- a template in a document
abbrev pub placed_in : ℕ → TemplateTerm → Placed
placed_in document template = record { document = document; template = template }

-- these templates were added, each with what it names
pub record Adds (before after : Finding) (terms : List TemplateTerm) : Type 0 where
  pub document : after.document ≡ before.document
  pub added : List Found
  pub behind : after.templates.items ≡ before.templates.items ++ added
  pub views : found_views added ≡ map (placed_in before.document) terms
  pub have : AreAll (HasMentions after.templates.items) added

-- a template was added, of which is not told yet what it names
pub record Begins (before after : Finding) (number : ℕ) (term : TemplateTerm) : Type 0 where
  pub document : after.document ≡ before.document
  pub is_number : number ≡ length before.templates.items
  pub found : Found
  pub view : found_view found ≡ placed_in before.document term
  pub empty : found.mentions.items ≡ []
  pub behind : after.templates.items ≡ before.templates.items ++ found ∷ []

-- it is told what the template that has the number names
abbrev pub told : Found → Vec FoundMention Global → Found
told x own = record {
  document = x.document;
  label = x.label;
  identifier = x.identifier;
  body = x.body;
  mentions = own;
}

pub record Tells (before after : Finding) (number : ℕ) (own : Vec FoundMention Global) : Type 0 where
  pub document : after.document ≡ before.document
  pub is : (first last : List Found) (x : Found) → before.templates.items ≡ first ++ x ∷ last →
      number ≡ length first → after.templates.items ≡ first ++ told x own ∷ last

-- a template was added, with those that stand in line in it
pub record FindsTemplate (before after : Finding) (number : ℕ) (term : TemplateTerm) : Type 0 where
  pub is_number : number ≡ length before.templates.items
  pub adds : Adds before after (in_template term)

-- what a reference is, with the templates that stand in line there
pub record FindsTarget (before after : Finding) (target : Target) (reference : ReferenceTerm) : Type 0 where
  pub adds : Adds before after (in_reference reference)
  pub refers : IsReference after.templates.items before.document target reference

-- what a part of a template names, with the templates that stand in line there
pub record Finds (before after : Finding) (own_before own_after : List FoundMention) (terms : List TemplateTerm)
    (named : List Mention) : Type 0 where
  pub adds : Adds before after terms
  pub more : List FoundMention
  pub behind : own_after ≡ own_before ++ more
  pub are : AreEach (IsMention after.templates.items before.document) more named

-- the same of references in a row
abbrev pub FindsRow : Finding → Finding → List FoundMention → List FoundMention → Role → ReferenceTerms → Type 0
FindsRow before after own_before own_after role references =
    Finds before after own_before own_after (in_references references) (mentions role references)

-- these templates of the documents were added, each with what it names
pub record AddsPlaced (before after : List Found) (placed : List Placed) : Type 0 where
  pub added : List Found
  pub behind : after ≡ before ++ added
  pub views : found_views added ≡ placed
  pub have : AreAll (HasMentions after) added
