-- StatedSteps: which step of a rule of the documents is that of a linked step, where it names an attribute or ARGUMENT
-- (docs/PROFILE.md, sections 9 and 12).
use Rattle.std.specs.Prelude.{ℕ, List, Contains}
use Rattle.token_grammar.specs.declared.token.Token.{Token}
use Rattle.gdmo_names.specs.InStep.{AreEach}
use Rattle.gdmo_names.specs.Mentions.Role.{StepAttribute}
use Rattle.gdmo_names.specs.PartTerms.{PartTerms, RuleTerm, StepTerm}
use Rattle.gdmo_names.specs.PartTerms.StepTerm.{AddTo, ReplyWith, SetTo}
use Rattle.gdmo_names.specs.PartTerms.TakenTerm.{OneWord, TheArgument}
use Rattle.gdmo_names.specs.RuleWords.{HasStep, IsReplyLabel}
use Rattle.gdmo_names.specs.TemplateTerms.ReferenceTerm.{ByLabel}
use Rattle.gdmo_linking.specs.LinkedTables.{Links}
use Rattle.gdmo_linking.proofs.StepLaws.{each_from}
use Rattle.linked_parts.specs.declared.linked.Linked.{Linked}
use Rattle.linked_parts.specs.declared.linked.LinkedRule.{LinkedRule}
use Rattle.linked_parts.specs.declared.linked.LinkedStep.{LinkedStep}
use Rattle.linked_parts.specs.declared.linked.LinkedStep.TheVariants as steps
use Rattle.linked_sections.specs.LinkedSections.{IsRule, IsStep}
use Rattle.linked_sections.specs.LinkedSections.IsStep.{add, emit, reply_argument, reply_attribute, reply_value}
use Rattle.linked_sections.specs.LinkedSections.IsStep.{reply_word, set_argument, set_value, set_word}
use Rattle.linked_documents.specs.LinkedParts.{AreLinkedParts}
use Rattle.schema_records.proofs.ClassLaws.{at_contains, contains_at}

-- what is told by an element of a list that goes in step
record IsToldBy {A B : Type 0} (is : A → B → Type 0) (xs : List A) (y : B) : Type 0 where
  x : A
  stands : Contains xs x
  told : is x y

told_by : {A B : Type 0} (is : A → B → Type 0) (xs : List A) (ys : List B) (y : B) → AreEach is xs ys →
    Contains ys y → IsToldBy is xs y
told_by is xs ys y each has =
    let at = contains_at ys y has in
    let found = each_from is xs ys at.0 y each at.1 in
    record { x = found.0; stands = at_contains xs at.0 found.0 found.1; told = found.2 }

module _ (parts : PartTerms) where
  module _ (rule : RuleTerm) where
    -- SET attribute TO ARGUMENT
    pub record SetsArgument (k : ℕ) : Type 0 where
      pub label : Token
      pub word : Token
      pub has : HasStep parts rule (SetTo label (TheArgument word))
      pub links : Links parts rule.document StepAttribute (ByLabel label) k

    -- ADD number TO attribute
    pub record Adds (k : ℕ) : Type 0 where
      pub number : Token
      pub label : Token
      pub has : HasStep parts rule (AddTo number label)
      pub links : Links parts rule.document StepAttribute (ByLabel label) k

    -- REPLY ARGUMENT
    pub record RepliesArgument : Type 0 where
      pub word : Token
      pub has : HasStep parts rule (ReplyWith (TheArgument word))

    -- REPLY attribute
    pub record RepliesAttribute (k : ℕ) : Type 0 where
      pub word : Token
      pub has : HasStep parts rule (ReplyWith (OneWord word))
      pub is_label : IsReplyLabel parts rule word
      pub links : Links parts rule.document StepAttribute (ByLabel word) k

    abbrev pub IsSaid : LinkedStep → Type 0
    IsSaid (steps.SetArgument k) = SetsArgument k
    IsSaid (steps.SetValue k text) = Unit {0}
    IsSaid (steps.Add number k) = Adds k
    IsSaid (steps.Emit k text) = Unit {0}
    IsSaid steps.ReplyArgument = RepliesArgument
    IsSaid (steps.ReplyAttribute k) = RepliesAttribute k
    IsSaid (steps.ReplyValue text) = Unit {0}

    step_said : {term : StepTerm} {step : LinkedStep} → HasStep parts rule term → IsStep parts rule term step →
        IsSaid step
    step_said has (set_argument {label = label} {word = word} links) =
        record { label = label; word = word; has = has; links = links }
    step_said has (set_word links is) = tt
    step_said has (set_value links is) = tt
    step_said has (add {number = number} {label = label} links) =
        record { number = number; label = label; has = has; links = links }
    step_said has (emit links is) = tt
    step_said has (reply_argument {word = word}) = record { word = word; has = has }
    step_said has (reply_attribute {word = word} is links) =
        record { word = word; has = has; is_label = is; links = links }
    step_said has (reply_word other is) = tt
    step_said has (reply_value is) = tt

  -- the rule of the documents that is linked so
  pub record IsStatedRule (part : LinkedRule) : Type 0 where
    pub rule : RuleTerm
    pub told : IsRule parts rule part
    pub said : (step : LinkedStep) → Contains part.steps.items step → IsSaid rule step

  pub stated_rule : (linked : Linked) → AreLinkedParts parts linked → (part : LinkedRule) →
      Contains linked.rules.items part → IsStatedRule part
  stated_rule linked are part listed =
      let of_rule = told_by (IsRule parts) parts.rules linked.rules.items part are.rules listed in record {
        rule = of_rule.x;
        told = of_rule.told;
        said = λ step has.
            let of_step = told_by (IsStep parts of_rule.x) of_rule.x.steps part.steps.items step
            of_rule.told.steps_are has in
            step_said of_rule.x (record { stands = of_rule.stands; has = of_step.stands }) of_step.told;
      }
