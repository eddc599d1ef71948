-- RuledSteps: each attribute that a step of a rule names is one that the rule may name (docs/PROFILE.md, sections 9 and
-- 12).
use Rattle.std.specs.Prelude.{◌≡◌, ℕ, List, Some, Contains}
use Rattle.term_model.specs.WholeSet.{IsOfRule}
use Rattle.term_model.specs.declared.rule.RuleRec.{RuleRec}
use Rattle.term_model.specs.declared.schema.Set.{Set}
use Rattle.asn1_names.specs.ModuleTerms.{ModuleTerm}
use Rattle.linked_parts.specs.declared.linked.Linked.{Linked}
use Rattle.linked_parts.specs.declared.linked.LinkedRule.{LinkedRule}
use Rattle.linked_parts.specs.declared.linked.LinkedStep.{LinkedStep}
use Rattle.linked_types.specs.PartIdentifiers.{IsAttributeId}
use Rattle.section_values.specs.SectionRecords.{IsRule}
use Rattle.ruled_attributes.specs.NamedAttributes.{attribute_of_step}

-- by its identifier in the record of the rule
abbrev pub AreRuled : List ModuleTerm → Linked → Set → Type 0
AreRuled ms linked schema = (part : LinkedRule) (x : RuleRec) (step : LinkedStep) (k : ℕ) (id : List ℕ) →
    Contains linked.rules.items part → IsRule ms linked part x → Contains part.steps.items step →
    attribute_of_step step ≡ Some k → IsAttributeId linked k id → IsOfRule schema x.class id
