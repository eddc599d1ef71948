-- AttributeLabels: the number of the attribute whose label a word is (docs/PROFILE.md, sections 9 and 12).
use Rattle.std.specs.Prelude.{◌≡◌, ℕ, List, Option, None, Some}
use Rattle.token_grammar.specs.declared.token.Token.{Token}
use Rattle.gdmo_names.specs.FoundViews.{found_views, numbered}
use Rattle.gdmo_names.specs.PartTerms.{Placed, PartTerms, kind_of}
use Rattle.gdmo_names.specs.RuleWords.{IsAttributeLabel}
use Rattle.gdmo_names.specs.TemplateTerms.TemplateKind.{AttributeKind}
use Rattle.gdmo_names.specs.declared.found.Found.{Found}

-- the template that has a number is an attribute
pub record IsAttributeAt (xs : List Found) (number : ℕ) : Type 0 where
  pub attribute : Placed
  pub at : numbered (found_views xs) (Some number) ≡ Some attribute
  pub of_kind : kind_of attribute.template ≡ AttributeKind

-- the number of the attribute whose label a word is, where it is one
pub data TellsAttribute (parts : PartTerms) (xs : List Found) (label : Token) : Option ℕ → Type 0 where
  is_label : {n : ℕ} (is : IsAttributeLabel parts label) → numbered (found_views xs) (Some n) ≡ Some is.attribute →
      TellsAttribute parts xs label (Some n)
  no_label : ¬ IsAttributeLabel parts label → TellsAttribute parts xs label None
