-- LabelMeaning: what a label means, and what a reference does (X.722, section 8.2; docs/PROFILE.md, section 12):
-- there is one space of labels over all documents and all kinds; of two templates of one label the first is meant, by
-- the document and then by the place of the label.
use Rattle.std.specs.Prelude.{◌≡◌, ◌==◌, ◌&&◌, ◌||◌, ℕ, nat_lt, List, [], ◌∷◌, Bool, Option, None, Some, Contains}
use Rattle.std.specs.Prelude.{if◌then◌else◌}
use Rattle.token_grammar.specs.declared.token.Token.{Token}
use Rattle.asn1_names.specs.NameMeaning.{is_called}
use Rattle.gdmo_names.specs.DocumentTemplates.{templates}
use Rattle.gdmo_names.specs.Mentions.{Role, mention, template_mentions, wanted_kind}
use Rattle.gdmo_names.specs.PartTerms.{Placed, PartTerms, label_of, kind_of}
use Rattle.gdmo_names.specs.TemplateTerms.{ReferenceTerm}
use Rattle.gdmo_names.specs.TemplateTerms.ReferenceTerm.{ByLabel, InLine}

-- one label stands before another one
abbrev pub stands_before : Placed → Placed → Bool
stands_before x y = nat_lt x.document y.document
    || (x.document == y.document) && nat_lt (label_of x.template).at (label_of y.template).at

abbrev pub earlier : Placed → Option Placed → Option Placed
earlier x None = Some x
earlier x (Some y) = if stands_before y x then Some y else Some x

-- the first of these templates that has the label
unfoldable pub first_called : List ℕ → List Placed → Option Placed
first_called label [] = None
first_called label (x ∷ xs) =
    if is_called label (label_of x.template) then earlier x (first_called label xs) else first_called label xs

unfoldable pub label_meaning : PartTerms → List ℕ → Option Placed
label_meaning parts label = first_called label (templates parts)

-- the template that a reference in a document means: the one of its label, or the one that stands there in line
unfoldable pub target : PartTerms → ℕ → ReferenceTerm → Option Placed
target parts document (ByLabel label) = label_meaning parts label.text
target parts document (InLine template) = Some (record { document = document; template = template })

-- the token of a reference: its label, or that of the template in line
abbrev pub reference_token : ReferenceTerm → Token
reference_token (ByLabel label) = label
reference_token (InLine template) = label_of template

-- a reference in a document means a template of the kind that is wanted
pub record Means (parts : PartTerms) (document : ℕ) (role : Role) (reference : ReferenceTerm) (to : Placed)
    : Type 0 where
  pub is_target : target parts document reference ≡ Some to
  pub of_kind : kind_of to.template ≡ wanted_kind role

-- a template names another one in this role
pub record Leads (parts : PartTerms) (from : Placed) (role : Role) (to : Placed) : Type 0 where
  pub reference : ReferenceTerm
  pub names : Contains (template_mentions from.template) (mention role reference)
  pub means : Means parts from.document role reference to

-- a template names in this role what is no template of the wanted kind
pub record LeadsNowhere (parts : PartTerms) (from : Placed) (role : Role) : Type 0 where
  pub reference : ReferenceTerm
  pub names : Contains (template_mentions from.template) (mention role reference)
  pub lost : (to : Placed) → ¬ Means parts from.document role reference to
