-- LabelledLaws: the attribute whose label a word is (docs/PROFILE.md, sections 9 and 12).
use Rattle.std.specs.Prelude.{◌≡◌, ℕ, List, Option, None, Some, IfNone, IfSome}
use Rattle.std.proofs.Common.{ap, sym, ◌∙◌}
use Rattle.std.proofs.Math.Path.{subst}
use Rattle.token_grammar.specs.declared.token.Token.{Token}
use Rattle.gdmo_names.specs.FoundViews.{found_views, numbered}
use Rattle.gdmo_names.specs.LabelMeaning.{label_meaning}
use Rattle.gdmo_names.specs.PartTerms.{Placed, PartTerms, kind_of}
use Rattle.gdmo_names.specs.TemplateTerms.TemplateKind.{AttributeKind}
use Rattle.gdmo_names.specs.declared.found.Found.{Found}
use Rattle.gdmo_rules.specs.AttributeLabels.{IsAttributeAt, TellsAttribute}
use Rattle.gdmo_rules.specs.AttributeLabels.TellsAttribute.{is_label, no_label}

same_template : (x y : Placed) → Some x ≡ Some y → x ≡ y
same_template x y is = ap (λ o. placed o) is
  where
    placed : Option Placed → Placed
    placed None = x
    placed (Some z) = z

-- the template at a number, and none
pub other_kind : (xs : List Found) (number : ℕ) (x : Placed) → numbered (found_views xs) (Some number) ≡ Some x →
    ¬ (kind_of x.template ≡ AttributeKind) → ¬ IsAttributeAt xs number
other_kind xs number x at other = λ is.
    other (subst (λ y. kind_of y.template ≡ AttributeKind) (same_template is.attribute x (sym is.at ∙ at)) is.of_kind)

pub nothing_there : (xs : List Found) (number : ℕ) → numbered (found_views xs) (Some number) ≡ None →
    ¬ IsAttributeAt xs number
nothing_there xs number none = λ is. let both = sym none ∙ is.at in absurd (cc)

-- what is told of a label that is that of the template with a number, or of none
pub number_told : (parts : PartTerms) (xs : List Found) (label : Token) (number : ℕ) (r : Option ℕ) →
    numbered (found_views xs) (Some number) ≡ label_meaning parts label.text →
    IfSome r (λ n. (n ≡ number) × IsAttributeAt xs number) → IfNone r (¬ IsAttributeAt xs number) →
    TellsAttribute parts xs label r
number_told parts xs label number (Some n) means one other =
    let at = one.1 in
    is_label (record { attribute = at.attribute; means = sym means ∙ at.at; of_kind = at.of_kind })
    (ap (λ k. numbered (found_views xs) (Some k)) one.0 ∙ at.at)
number_told parts xs label number None means one other = no_label (λ is.
    other (record { attribute = is.attribute; at = means ∙ is.means; of_kind = is.of_kind }))

pub nothing_told : (parts : PartTerms) (xs : List Found) (label : Token) → label_meaning parts label.text ≡ None →
    TellsAttribute parts xs label None
nothing_told parts xs label none = no_label (λ is. let both = sym none ∙ is.means in absurd (cc))
