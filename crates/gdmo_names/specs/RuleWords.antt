-- RuleWords: what the rules of a set of documents are about: their classes, actions and steps, and what a word alone
-- behind REPLY is (docs/PROFILE.md, sections 9 and 12): an attribute, where the template of its label is one; else a
-- value, where it is in capitals or the reply has a number of its name; else a label.
use Rattle.std.specs.Prelude.{◌≡◌, true, Option, None, Some, Contains}
use Rattle.token_grammar.specs.declared.qualified_name.QualifiedName.{QualifiedName}
use Rattle.token_grammar.specs.declared.token.Token.{Token}
use Rattle.token_grammar.specs.TokenTests.{is_label}
use Rattle.term_values.specs.Syntaxes.{TypeSyntax}
use Rattle.asn1_names.specs.NodeCount.{IsNoType}
use Rattle.gdmo_names.specs.AttributeSyntaxes.{has_number_called}
use Rattle.gdmo_names.specs.LabelMeaning.{Means, label_meaning}
use Rattle.gdmo_names.specs.Mentions.Role.{RuleClass, RuleAction}
use Rattle.gdmo_names.specs.PartTerms.{Placed, TakenTerm, StepTerm, RuleTerm, PartTerms, body_of, kind_of}
use Rattle.gdmo_names.specs.PartTerms.{module_terms_of}
use Rattle.gdmo_names.specs.PartTerms.TakenTerm.{OneWord}
use Rattle.gdmo_names.specs.PartTerms.StepTerm.{SetTo, AddTo, ReplyWith}
use Rattle.gdmo_names.specs.TemplateTerms.{BodyTerm}
use Rattle.gdmo_names.specs.TemplateTerms.BodyTerm.{ActionBody}
use Rattle.gdmo_names.specs.TemplateTerms.TemplateKind.{AttributeKind}
use Rattle.gdmo_names.specs.TemplateTerms.ReferenceTerm.{ByLabel}
use Rattle.gdmo_names.specs.TypeMeaning.{qualified_meaning, TypeHasSyntax}

-- a rule of the documents has this step
pub record HasStep (parts : PartTerms) (rule : RuleTerm) (step : StepTerm) : Type 0 where
  pub stands : Contains parts.rules rule
  pub has : Contains rule.steps step

-- the class of a rule, and its action
abbrev pub IsOfClass : PartTerms → RuleTerm → Placed → Type 0
IsOfClass parts rule class = Means parts rule.document RuleClass (ByLabel rule.class) class

abbrev pub IsOfAction : PartTerms → RuleTerm → Placed → Type 0
IsOfAction parts rule action = Means parts rule.document RuleAction (ByLabel rule.action) action

-- the types of an action's information and of its reply
abbrev pub information_of : BodyTerm → Option QualifiedName
information_of (ActionBody behaviours confirmed parameters information reply) = information
information_of _ = None

abbrev pub reply_of : BodyTerm → Option QualifiedName
reply_of (ActionBody behaviours confirmed parameters information reply) = reply
reply_of _ = None

-- the label is that of an attribute's template
pub record IsAttributeLabel (parts : PartTerms) (label : Token) : Type 0 where
  pub attribute : Placed
  pub means : label_meaning parts label.text ≡ Some attribute
  pub of_kind : kind_of attribute.template ≡ AttributeKind

-- the type is there, where one is stated
abbrev pub IsKnownType : PartTerms → Option QualifiedName → Type 0
IsKnownType parts None = Unit {0}
IsKnownType parts (Some name) = ¬ IsNoType (qualified_meaning (module_terms_of parts) name)

-- the reply of an action has a number of this name
pub record RepliesNumber (parts : PartTerms) (action : Placed) (word : Token) : Type 0 where
  pub name : QualifiedName
  pub is_reply : reply_of (body_of action.template) ≡ Some name
  pub syntax : TypeSyntax
  pub has : TypeHasSyntax (module_terms_of parts) name syntax
  pub names : has_number_called word.text syntax ≡ true

-- A word alone behind REPLY is a label. Where the action, or the type of its reply, is missing, a word that isn't an
-- attribute's label isn't judged.
pub data IsReplyLabel (parts : PartTerms) (rule : RuleTerm) (word : Token) : Type 0 where
  attribute_label : IsAttributeLabel parts word → IsReplyLabel parts rule word
  other_label : {action : Placed} → ¬ IsAttributeLabel parts word → is_label word ≡ true →
      IsOfAction parts rule action → IsKnownType parts (reply_of (body_of action.template)) →
      ¬ RepliesNumber parts action word → IsReplyLabel parts rule word

-- a step names an attribute by this label
pub data NamesByLabel (parts : PartTerms) (rule : RuleTerm) (label : Token) : StepTerm → Type 0 where
  set : {value : TakenTerm} → NamesByLabel parts rule label (SetTo label value)
  add : {number : Token} → NamesByLabel parts rule label (AddTo number label)
  reply : IsReplyLabel parts rule label → NamesByLabel parts rule label (ReplyWith (OneWord label))
