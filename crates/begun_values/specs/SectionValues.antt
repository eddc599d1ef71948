-- SectionValues: with which first names the values begin that rules and instances state (docs/PROFILE.md, sections 9
-- and 12).
use Rattle.std.specs.Prelude.{◌≡◌, ◌⊎◌, ◌++◌, ℕ, List, Option, None, Some, Contains, drop}
use Rattle.token_grammar.specs.declared.qualified_name.QualifiedName.{QualifiedName}
use Rattle.token_grammar.specs.declared.token.Token.{Token}
use Rattle.token_grammar.specs.Form.{Tree}
use Rattle.term_values.specs.Syntaxes.{TypeSyntax}
use Rattle.asn1_names.specs.ModuleTerms.{ModuleTerm}
use Rattle.gdmo_names.specs.AttributeSyntaxes.{AttributeHasSyntax}
use Rattle.gdmo_names.specs.BegunNames.{told_of}
use Rattle.gdmo_names.specs.InStep.{AreEach}
use Rattle.gdmo_names.specs.LabelMeaning.{Means}
use Rattle.gdmo_names.specs.Mentions.{Role}
use Rattle.gdmo_names.specs.Mentions.Role.{StepAttribute, StepNotification, NameAttribute, GivenAttribute}
use Rattle.gdmo_names.specs.PartTerms.{InstanceTerm, PairTerm, PartTerms, Placed, RuleTerm, StepTerm, TakenTerm}
use Rattle.gdmo_names.specs.PartTerms.{body_of, module_terms_of}
use Rattle.gdmo_names.specs.PartTerms.StepTerm.{AddTo, EmitOf, ReplyWith, SetTo}
use Rattle.gdmo_names.specs.PartTerms.TakenTerm.{OneWord, OtherValue, TheArgument}
use Rattle.gdmo_names.specs.RuleWords.{HasStep, IsOfAction, reply_of}
use Rattle.gdmo_names.specs.TemplateTerms.ReferenceTerm.{ByLabel}
use Rattle.gdmo_names.specs.TypeMeaning.{TypeHasSyntax}
use Rattle.gdmo_names.specs.ValueNames.{BeginsIn}
use Rattle.gdmo_begun_names.specs.declared.begun_names.BegunNames.{BegunNames}
use Rattle.gdmo_begun_names.specs.BegunMarks.{AnyFirst, FirstSet, Marks}
use Rattle.begun_values.specs.MeantSyntaxes.{BeginsOf}

-- the syntax of the type that is stated, where one is
pub record StatedSyntax (ms : List ModuleTerm) (stated : Option QualifiedName) (syntax : TypeSyntax) : Type 0 where
  pub name : QualifiedName
  pub is : stated ≡ Some name
  pub has : TypeHasSyntax ms name syntax

-- the syntax of the attribute that a label means
pub record LabelledSyntax (parts : PartTerms) (document : ℕ) (role : Role) (label : Token) (syntax : TypeSyntax)
    : Type 0 where
  pub attribute : Placed
  pub means : Means parts document role (ByLabel label) attribute
  pub has : AttributeHasSyntax parts attribute syntax

-- the syntax of what the notification says that a label means
pub record ToldSyntax (parts : PartTerms) (document : ℕ) (label : Token) (syntax : TypeSyntax) : Type 0 where
  pub notification : Placed
  pub means : Means parts document StepNotification (ByLabel label) notification
  pub has : StatedSyntax (module_terms_of parts) (told_of (body_of notification.template)) syntax

-- the syntax of what the action of a rule replies
pub record ReplySyntax (parts : PartTerms) (rule : RuleTerm) (syntax : TypeSyntax) : Type 0 where
  pub action : Placed
  pub means : IsOfAction parts rule action
  pub has : StatedSyntax (module_terms_of parts) (reply_of (body_of action.template)) syntax

-- a value that a rule or an instance states has this text and this syntax
pub data IsSectionValue (parts : PartTerms) (text : Tree) (syntax : TypeSyntax) : Type 0 where
  set : {rule : RuleTerm} {label : Token} → HasStep parts rule (SetTo label (OtherValue text)) →
      LabelledSyntax parts rule.document StepAttribute label syntax → IsSectionValue parts text syntax
  emitted : {rule : RuleTerm} {label : Token} → HasStep parts rule (EmitOf label (Some text)) →
      ToldSyntax parts rule.document label syntax → IsSectionValue parts text syntax
  replied : {rule : RuleTerm} → HasStep parts rule (ReplyWith (OtherValue text)) → ReplySyntax parts rule syntax →
      IsSectionValue parts text syntax
  naming : {instance : InstanceTerm} {pair : PairTerm} → Contains parts.instances instance →
      Contains instance.name pair → pair.value ≡ text →
      LabelledSyntax parts instance.document NameAttribute pair.attribute syntax → IsSectionValue parts text syntax
  given : {instance : InstanceTerm} {pair : PairTerm} → Contains parts.instances instance →
      Contains instance.given pair → pair.value ≡ text →
      LabelledSyntax parts instance.document GivenAttribute pair.attribute syntax → IsSectionValue parts text syntax

-- such a value begins with the name
pub record SectionFirsts (parts : PartTerms) (first : Token) : Type 0 where
  pub text : Tree
  pub syntax : TypeSyntax
  pub stands : IsSectionValue parts text syntax
  pub begins : BeginsIn first syntax text

-- what SET or REPLY takes, a value that may stand, and what a step states
abbrev pub TakenFirsts : (TypeSyntax → Type 0) → TakenTerm → FirstSet
TakenFirsts Of (TheArgument word) first = ⊥
TakenFirsts Of (OneWord word) first = ⊥
TakenFirsts Of (OtherValue text) first = BeginsOf Of text first

abbrev pub OptionalFirsts : (TypeSyntax → Type 0) → Option Tree → FirstSet
OptionalFirsts Of None first = ⊥
OptionalFirsts Of (Some text) first = BeginsOf Of text first

abbrev pub StepFirsts : PartTerms → RuleTerm → StepTerm → FirstSet
StepFirsts parts rule (SetTo label taken) first =
    TakenFirsts (LabelledSyntax parts rule.document StepAttribute label) taken first
StepFirsts parts rule (AddTo number label) first = ⊥
StepFirsts parts rule (EmitOf label text) first = OptionalFirsts (ToldSyntax parts rule.document label) text first
StepFirsts parts rule (ReplyWith taken) first = TakenFirsts (ReplySyntax parts rule) taken first

abbrev pub RuleFirsts : PartTerms → RuleTerm → FirstSet
RuleFirsts parts rule = AnyFirst (StepFirsts parts rule) rule.steps

-- a pair of an instance in this role, and the pairs of an instance
abbrev pub PairFirsts : PartTerms → ℕ → Role → PairTerm → FirstSet
PairFirsts parts document role pair = BeginsOf (LabelledSyntax parts document role pair.attribute) pair.value

abbrev pub InstanceFirsts : PartTerms → InstanceTerm → FirstSet
InstanceFirsts parts x first = AnyFirst (PairFirsts parts x.document NameAttribute) x.name first
    ⊎ AnyFirst (PairFirsts parts x.document GivenAttribute) x.given first

-- where these stand first among those that are told from a place on, the others are told from the next place on, and
-- the names of these are marked
pub record GoesOn {A B : Type 0} (Is : A → B → Type 0) (Firsts : A → FirstSet) (xs : List A) (told : List B)
    (at next : ℕ) (before after : BegunNames) : Type 0 where
  pub rest : (ys : List A) → AreEach Is (xs ++ ys) (drop at told) → AreEach Is ys (drop next told)
  pub marks : (ys : List A) → AreEach Is (xs ++ ys) (drop at told) → Marks (AnyFirst Firsts xs) before after
