-- References: where templates are named in a set of documents: by templates, by rules and by instances (X.722,
-- section 8; docs/PROFILE.md, sections 2, 9 and 12).
use Rattle.std.specs.Prelude.{ℕ, Option, Contains}
use Rattle.token_grammar.specs.declared.token.Token.{Token}
use Rattle.token_grammar.specs.Form.{Tree}
use Rattle.gdmo_names.specs.DocumentTemplates.{templates}
use Rattle.gdmo_names.specs.Mentions.{Role, mention, template_mentions}
use Rattle.gdmo_names.specs.Mentions.Role.{RuleClass, RuleAction, StepAttribute, StepNotification, InstanceClass}
use Rattle.gdmo_names.specs.Mentions.Role.{NameAttribute, GivenAttribute, ChosenPackage}
use Rattle.gdmo_names.specs.PartTerms.{Placed, StepTerm, RuleTerm, PairTerm, InstanceTerm, PartTerms}
use Rattle.gdmo_names.specs.PartTerms.StepTerm.{EmitOf}
use Rattle.gdmo_names.specs.RuleWords.{HasStep, NamesByLabel}
use Rattle.gdmo_names.specs.TemplateTerms.{ReferenceTerm}
use Rattle.gdmo_names.specs.TemplateTerms.ReferenceTerm.{ByLabel}

-- a reference stands in a document in this role
pub data Refers (parts : PartTerms) : ℕ → Role → ReferenceTerm → Type 0 where
  by_template : {by : Placed} {role : Role} {reference : ReferenceTerm} → Contains (templates parts) by →
      Contains (template_mentions by.template) (mention role reference) → Refers parts by.document role reference
  rule_class : {rule : RuleTerm} → Contains parts.rules rule →
      Refers parts rule.document RuleClass (ByLabel rule.class)
  rule_action : {rule : RuleTerm} → Contains parts.rules rule →
      Refers parts rule.document RuleAction (ByLabel rule.action)
  step_attribute : {rule : RuleTerm} {step : StepTerm} {label : Token} → HasStep parts rule step →
      NamesByLabel parts rule label step → Refers parts rule.document StepAttribute (ByLabel label)
  step_notification : {rule : RuleTerm} {label : Token} {value : Option Tree} →
      HasStep parts rule (EmitOf label value) → Refers parts rule.document StepNotification (ByLabel label)
  instance_class : {instance : InstanceTerm} → Contains parts.instances instance →
      Refers parts instance.document InstanceClass (ByLabel instance.class)
  name_attribute : {instance : InstanceTerm} {pair : PairTerm} → Contains parts.instances instance →
      Contains instance.name pair → Refers parts instance.document NameAttribute (ByLabel pair.attribute)
  given_attribute : {instance : InstanceTerm} {pair : PairTerm} → Contains parts.instances instance →
      Contains instance.given pair → Refers parts instance.document GivenAttribute (ByLabel pair.attribute)
  chosen_package : {instance : InstanceTerm} {label : Token} → Contains parts.instances instance →
      Contains instance.packages label → Refers parts instance.document ChosenPackage (ByLabel label)
