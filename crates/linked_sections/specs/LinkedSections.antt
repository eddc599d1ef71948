-- LinkedSections: which linked rule or instance is that of which rule or instance of a section (docs/PROFILE.md,
-- sections 9 and 12). A value is told by what its text says.
use Rattle.std.specs.Prelude.{◌≡◌, ℕ, Option}
use Rattle.std.specs.Str.Parse.{digits_value}
use Rattle.token_grammar.specs.declared.token.Token.{Token}
use Rattle.token_grammar.specs.Form.{Tree}
use Rattle.asn1_values_syntax.specs.declared.value.ValueText.{ValueText}
use Rattle.asn1_values_syntax.specs.ValueTrees.{value_tree}
use Rattle.linked_parts.specs.declared.linked.LinkedInstance.{LinkedInstance}
use Rattle.linked_parts.specs.declared.linked.LinkedPair.{LinkedPair}
use Rattle.linked_parts.specs.declared.linked.LinkedRule.{LinkedRule}
use Rattle.linked_parts.specs.declared.linked.LinkedStep.{LinkedStep}
use Rattle.linked_parts.specs.declared.linked.LinkedStep.TheVariants.{SetArgument, SetValue, Add, Emit, ReplyArgument}
use Rattle.linked_parts.specs.declared.linked.LinkedStep.TheVariants.{ReplyAttribute, ReplyValue}
use Rattle.gdmo_linking.specs.LinkedTables.{Links}
use Rattle.gdmo_names.specs.InStep.{AreEach}
use Rattle.gdmo_names.specs.Mentions.{Role}
use Rattle.gdmo_names.specs.Mentions.Role.{RuleClass, RuleAction, StepAttribute, StepNotification, InstanceClass}
use Rattle.gdmo_names.specs.Mentions.Role.{NameAttribute, GivenAttribute, ChosenPackage}
use Rattle.gdmo_names.specs.PartTerms.{StepTerm, RuleTerm, PairTerm, InstanceTerm, PartTerms}
use Rattle.gdmo_names.specs.PartTerms.TakenTerm.{TheArgument, OneWord, OtherValue}
use Rattle.gdmo_names.specs.PartTerms.StepTerm.{SetTo, AddTo, EmitOf, ReplyWith}
use Rattle.gdmo_names.specs.PartViews.{optional_value, taken_term}
use Rattle.gdmo_names.specs.RuleWords.{IsReplyLabel}
use Rattle.gdmo_names.specs.TemplateTerms.ReferenceTerm.{ByLabel}

-- a step is linked; a word alone behind REPLY is an attribute's label, or a value
pub data IsStep (parts : PartTerms) (rule : RuleTerm) : StepTerm → LinkedStep → Type 0 where
  set_argument : {label word : Token} {k : ℕ} → Links parts rule.document StepAttribute (ByLabel label) k →
      IsStep parts rule (SetTo label (TheArgument word)) (SetArgument k)
  set_word : {label word : Token} {k : ℕ} {value : ValueText} →
      Links parts rule.document StepAttribute (ByLabel label) k → taken_term value ≡ OneWord word →
      IsStep parts rule (SetTo label (OneWord word)) (SetValue k value)
  set_value : {label : Token} {tree : Tree} {k : ℕ} {value : ValueText} →
      Links parts rule.document StepAttribute (ByLabel label) k → taken_term value ≡ OtherValue tree →
      IsStep parts rule (SetTo label (OtherValue tree)) (SetValue k value)
  add : {number label : Token} {k : ℕ} → Links parts rule.document StepAttribute (ByLabel label) k →
      IsStep parts rule (AddTo number label) (Add (digits_value 10 number.text) k)
  emit : {label : Token} {stated : Option Tree} {k : ℕ} {value : Option ValueText} →
      Links parts rule.document StepNotification (ByLabel label) k → optional_value value ≡ stated →
      IsStep parts rule (EmitOf label stated) (Emit k value)
  reply_argument : {word : Token} → IsStep parts rule (ReplyWith (TheArgument word)) ReplyArgument
  reply_attribute : {word : Token} {k : ℕ} → IsReplyLabel parts rule word →
      Links parts rule.document StepAttribute (ByLabel word) k →
      IsStep parts rule (ReplyWith (OneWord word)) (ReplyAttribute k)
  reply_word : {word : Token} {value : ValueText} → ¬ IsReplyLabel parts rule word → taken_term value ≡ OneWord word →
      IsStep parts rule (ReplyWith (OneWord word)) (ReplyValue value)
  reply_value : {tree : Tree} {value : ValueText} → taken_term value ≡ OtherValue tree →
      IsStep parts rule (ReplyWith (OtherValue tree)) (ReplyValue value)

pub record IsRule (parts : PartTerms) (rule : RuleTerm) (x : LinkedRule) : Type 0 where
  pub document : x.document ≡ rule.document
  pub is_class : Links parts rule.document RuleClass (ByLabel rule.class) x.class
  pub is_action : Links parts rule.document RuleAction (ByLabel rule.action) x.action
  pub steps_are : AreEach (IsStep parts rule) rule.steps x.steps.items

-- a pair of an attribute and its value
pub record IsPair (parts : PartTerms) (document : ℕ) (role : Role) (pair : PairTerm) (x : LinkedPair) : Type 0 where
  pub is_attribute : Links parts document role (ByLabel pair.attribute) x.attribute
  pub is_value : value_tree x.value ≡ pair.value

-- a package that is chosen
abbrev pub IsChosen : PartTerms → ℕ → Token → ℕ → Type 0
IsChosen parts document label k = Links parts document ChosenPackage (ByLabel label) k

pub record IsInstance (parts : PartTerms) (instance : InstanceTerm) (x : LinkedInstance) : Type 0 where
  pub document : x.document ≡ instance.document
  pub is_root : x.is_root ≡ instance.is_root
  pub is_class : Links parts instance.document InstanceClass (ByLabel instance.class) x.class
  pub name_is : AreEach (IsPair parts instance.document NameAttribute) instance.name x.name.items
  pub given_are : AreEach (IsPair parts instance.document GivenAttribute) instance.given x.given.items
  pub packages_are : AreEach (IsChosen parts instance.document) instance.packages x.packages.items
