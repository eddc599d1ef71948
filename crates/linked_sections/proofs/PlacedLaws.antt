-- PlacedLaws: the steps of rules with the numbers of the templates that they name (docs/PROFILE.md, section 9).
use Rattle.std.specs.Prelude.{◌≡◌, ℕ, List, Option, None, Some}
use Rattle.std.proofs.Common.{ap, sym, ◌∙◌}
use Rattle.std.proofs.Math.Path.{subst}
use Rattle.std.proofs.lemmas.Option.{same_Some}
use Rattle.token_grammar.specs.declared.token.Token.{Token}
use Rattle.asn1_values_syntax.specs.declared.value.ValueText.{ValueText}
use Rattle.asn1_values_syntax.specs.ValueTrees.{value_tree}
use Rattle.linked_parts.specs.declared.linked.LinkedStep.TheVariants.{SetArgument, SetValue}
use Rattle.gdmo_linking.specs.LinkedTables.{Links}
use Rattle.gdmo_linking.specs.Linkers.{IsLinker, IsMeant, LinksMention}
use Rattle.gdmo_linking.specs.declared.linking.Linker.{Linker}
use Rattle.gdmo_names.specs.FoundViews.{found_views, numbered}
use Rattle.gdmo_names.specs.LabelMeaning.{Means, target}
use Rattle.gdmo_names.specs.Mentions.{Mention, mention}
use Rattle.gdmo_names.specs.Mentions.Role.{StepAttribute, StepNotification}
use Rattle.gdmo_names.specs.PartTerms.{PartTerms, RuleTerm, StepTerm, TakenTerm}
use Rattle.gdmo_names.specs.PartTerms.StepTerm.{SetTo, AddTo, EmitOf, ReplyWith}
use Rattle.gdmo_names.specs.PartTerms.TakenTerm.{TheArgument, OneWord, OtherValue}
use Rattle.gdmo_names.specs.PartViews.{taken_term}
use Rattle.gdmo_names.specs.RuleWords.{IsAttributeLabel}
use Rattle.gdmo_names.specs.TargetTables.{TellsMention}
use Rattle.gdmo_names.specs.TemplateTerms.ReferenceTerm.{ByLabel}
use Rattle.gdmo_names.specs.declared.found.Found.{Found}
use Rattle.gdmo_rules.specs.AttributeLabels.{TellsAttribute}
use Rattle.gdmo_rules.specs.AttributeLabels.TellsAttribute.{is_label, no_label}
use Rattle.gdmo_targets.specs.SectionTables.{TellsStep}
use Rattle.linked_sections.specs.KnownSections.{IsCompleteStep}
use Rattle.linked_sections.specs.LinkedSections.{IsStep}
use Rattle.linked_sections.specs.LinkedSections.IsStep.{set_argument, set_value, set_word}
use Rattle.linked_sections.specs.SectionTexts.{LinksStep}

-- whatever means the template of this number is linked by that one
abbrev pub Places : Linker → Option ℕ → ℕ → Type 0
Places linker number k = (parts : PartTerms) (document : ℕ) (x : Mention) → IsLinker parts linker →
    IsMeant parts document x → TellsMention parts linker.linkage.templates.now document x number →
    LinksMention parts document x k

pub step_linked : (parts : PartTerms) (linker : Linker) (rule : RuleTerm) (step : StepTerm) (number : Option ℕ) (k : ℕ) →
    IsLinker parts linker → IsCompleteStep parts rule step →
    TellsStep parts linker.linkage.templates.now rule.document step number → Places linker number k →
    LinksStep parts rule step k
step_linked parts linker rule (SetTo label taken) number k is complete tells places =
    places parts rule.document (mention StepAttribute (ByLabel label)) is complete tells
step_linked parts linker rule (AddTo digits label) number k is complete tells places =
    places parts rule.document (mention StepAttribute (ByLabel label)) is complete.0 tells
step_linked parts linker rule (EmitOf label value) number k is complete tells places =
    places parts rule.document (mention StepNotification (ByLabel label)) is complete tells
step_linked parts linker rule (ReplyWith taken) number k is complete tells places = tt

-- ---- SET

pub set_is_argument : (parts : PartTerms) (rule : RuleTerm) (label word : Token) (taken : TakenTerm) (k : ℕ) →
    taken ≡ TheArgument word → Links parts rule.document StepAttribute (ByLabel label) k →
    IsStep parts rule (SetTo label taken) (SetArgument k)
set_is_argument parts rule label word taken k is links =
    subst (λ t. IsStep parts rule (SetTo label t) (SetArgument k)) (sym is) (set_argument links)

pub set_is_word : (parts : PartTerms) (rule : RuleTerm) (label word : Token) (taken : TakenTerm) (k : ℕ)
    (copy : ValueText) → taken ≡ OneWord word → Links parts rule.document StepAttribute (ByLabel label) k →
    taken_term copy ≡ taken → IsStep parts rule (SetTo label taken) (SetValue k copy)
set_is_word parts rule label word taken k copy is links same =
    subst (λ t. IsStep parts rule (SetTo label t) (SetValue k copy)) (sym is) (set_word links (same ∙ is))

pub set_is_value : (parts : PartTerms) (rule : RuleTerm) (label : Token) (taken : TakenTerm) (k : ℕ)
    (value copy : ValueText) → taken ≡ OtherValue (value_tree value) →
    Links parts rule.document StepAttribute (ByLabel label) k →
    taken_term copy ≡ taken → IsStep parts rule (SetTo label taken) (SetValue k copy)
set_is_value parts rule label taken k value copy is links same =
    subst (λ t. IsStep parts rule (SetTo label t) (SetValue k copy)) (sym is) (set_value links (same ∙ is))

-- ---- a word alone behind REPLY

pub told_some : {parts : PartTerms} {xs : List Found} {label : Token} {r : Option ℕ} (n : ℕ) →
    TellsAttribute parts xs label r → r ≡ Some n →
    (is : IsAttributeLabel parts label) × (numbered (found_views xs) (Some n) ≡ Some is.attribute)
told_some {xs = xs} n (is_label is at) same = (is, ap (numbered (found_views xs)) (sym same) ∙ at)
told_some n (no_label other) same = absurd (cc)

pub told_none : {parts : PartTerms} {xs : List Found} {label : Token} {r : Option ℕ} →
    TellsAttribute parts xs label r → r ≡ None → ¬ IsAttributeLabel parts label
told_none (is_label is at) same = absurd (cc)
told_none (no_label other) same = other

label_means : (parts : PartTerms) (document : ℕ) (label : Token) (is : IsAttributeLabel parts label) →
    Means parts document StepAttribute (ByLabel label) is.attribute
unfolding target
label_means parts document label is = record { is_target = is.means; of_kind = is.of_kind }

label_tells : (parts : PartTerms) (xs : List Found) (document n : ℕ) (label : Token)
    (is : IsAttributeLabel parts label) → numbered (found_views xs) (Some n) ≡ Some is.attribute →
    TellsMention parts xs document (mention StepAttribute (ByLabel label)) (Some n)
unfolding target
label_tells parts xs document n label is at = λ to. (
  (λ there. subst (Means parts document StepAttribute (ByLabel label))
      (same_Some is.attribute to (sym at ∙ there)) (label_means parts document label is)),
  (λ means. at ∙ sym is.means ∙ means.is_target),
)

pub label_linked : (parts : PartTerms) (linker : Linker) (document n k : ℕ) (label : Token)
    (is : IsAttributeLabel parts label) → IsLinker parts linker →
    numbered (found_views linker.linkage.templates.now) (Some n) ≡ Some is.attribute → Places linker (Some n) k →
    Links parts document StepAttribute (ByLabel label) k
label_linked parts linker document n k label is knows at places =
    places parts document (mention StepAttribute (ByLabel label)) knows
    (is.attribute, label_means parts document label is)
    (label_tells parts linker.linkage.templates.now document n label is at)
