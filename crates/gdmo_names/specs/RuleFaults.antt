-- RuleFaults: what a rule may not say, a definition for each sentence (docs/PROFILE.md, sections 9 and 12). Nothing
-- is said of what depends on a template or a type that is missing.
use Rattle.std.specs.Prelude.{◌≡◌, ◌<◌, ℕ, Option, None, Some, slice_get}
use Rattle.token_grammar.specs.declared.qualified_name.QualifiedName.{QualifiedName}
use Rattle.token_grammar.specs.declared.token.Token.{Token}
use Rattle.gdmo_names.specs.AttributeSyntaxes.{HasUnknownSyntax, IsOfNamedType, IsWholeNumber}
use Rattle.gdmo_names.specs.ClassMembers.{HasAttribute, HasUnknownAttributes, CanBeNamedBy}
use Rattle.gdmo_names.specs.LabelMeaning.{Means}
use Rattle.gdmo_names.specs.Mentions.Role.{StepAttribute}
use Rattle.gdmo_names.specs.OneType.{AreOneType}
use Rattle.gdmo_names.specs.PartTerms.{Placed, StepTerm, RuleTerm, PartTerms, module_terms_of, body_of}
use Rattle.gdmo_names.specs.PartTerms.TakenTerm.{TheArgument, OneWord}
use Rattle.gdmo_names.specs.PartTerms.StepTerm.{SetTo, AddTo, ReplyWith}
use Rattle.gdmo_names.specs.RuleWords.{HasStep, IsOfClass, IsOfAction, IsKnownType, NamesByLabel}
use Rattle.gdmo_names.specs.RuleWords.{information_of, reply_of}
use Rattle.gdmo_names.specs.TemplateTerms.ReferenceTerm.{ByLabel}

-- a step of a rule names the attribute by this label
pub record StepNames (parts : PartTerms) (rule : RuleTerm) (step : StepTerm) (label : Token) (attribute : Placed)
    : Type 0 where
  pub has : HasStep parts rule step
  pub by : NamesByLabel parts rule label step
  pub means : Means parts rule.document StepAttribute (ByLabel label) attribute

-- a step names an attribute that can name objects of the class, or of one that derives from it
pub record NamesNamingAttribute (parts : PartTerms) (rule : RuleTerm) (label : Token) : Type 0 where
  pub step : StepTerm
  pub attribute : Placed
  pub names : StepNames parts rule step label attribute
  pub class : Placed
  pub of_class : IsOfClass parts rule class
  pub naming : CanBeNamedBy parts class attribute

-- a step names an attribute that no mandatory package of the class has
pub record NamesForeignAttribute (parts : PartTerms) (rule : RuleTerm) (label : Token) : Type 0 where
  pub step : StepTerm
  pub attribute : Placed
  pub names : StepNames parts rule step label attribute
  pub class : Placed
  pub of_class : IsOfClass parts rule class
  pub all_known : ¬ HasUnknownAttributes parts class
  pub foreign : ¬ HasAttribute parts class attribute

-- ADD names an attribute that isn't INTEGER
pub record AddsToOther (parts : PartTerms) (rule : RuleTerm) (label : Token) : Type 0 where
  pub number : Token
  pub attribute : Placed
  pub names : StepNames parts rule (AddTo number label) label attribute
  pub known : ¬ HasUnknownSyntax parts attribute
  pub other : ¬ IsWholeNumber parts attribute

-- an attribute is of this type; where no type is stated, it isn't
abbrev pub IsOfStatedType : PartTerms → Placed → Option QualifiedName → Type 0
IsOfStatedType parts attribute None = ⊥
IsOfStatedType parts attribute (Some name) = IsOfNamedType parts attribute name

-- two types that are stated are one
abbrev pub AreOneStatedType : PartTerms → Option QualifiedName → Option QualifiedName → Type 0
AreOneStatedType parts (Some one) (Some other) = AreOneType (module_terms_of parts) one other
AreOneStatedType parts _ _ = ⊥

-- ARGUMENT has another type than the attribute that it is set to, or than the reply; an attribute that is replied has
-- another type than the reply. The word is ARGUMENT, or the attribute's label.
pub data HasOtherType (parts : PartTerms) (rule : RuleTerm) (word : Token) : Type 0 where
  set_argument : {label : Token} {attribute action : Placed} →
      StepNames parts rule (SetTo label (TheArgument word)) label attribute → IsOfAction parts rule action →
      IsKnownType parts (information_of (body_of action.template)) → ¬ HasUnknownSyntax parts attribute →
      ¬ IsOfStatedType parts attribute (information_of (body_of action.template)) → HasOtherType parts rule word
  reply_argument : {action : Placed} → HasStep parts rule (ReplyWith (TheArgument word)) →
      IsOfAction parts rule action → IsKnownType parts (information_of (body_of action.template)) →
      IsKnownType parts (reply_of (body_of action.template)) →
      ¬ AreOneStatedType parts (information_of (body_of action.template)) (reply_of (body_of action.template)) →
      HasOtherType parts rule word
  reply_attribute : {attribute action : Placed} → StepNames parts rule (ReplyWith (OneWord word)) word attribute →
      IsOfAction parts rule action → IsKnownType parts (reply_of (body_of action.template)) →
      ¬ HasUnknownSyntax parts attribute → ¬ IsOfStatedType parts attribute (reply_of (body_of action.template)) →
      HasOtherType parts rule word

-- an earlier rule is for the same class and the same action
pub record IsStatedTwice (parts : PartTerms) (rule : RuleTerm) : Type 0 where
  pub earlier : ℕ
  pub later : ℕ
  pub rising : earlier < later
  pub first : RuleTerm
  pub is_first : slice_get parts.rules earlier ≡ Some first
  pub is_later : slice_get parts.rules later ≡ Some rule
  pub class : Placed
  pub of_class : IsOfClass parts rule class
  pub first_of_class : IsOfClass parts first class
  pub action : Placed
  pub of_action : IsOfAction parts rule action
  pub first_of_action : IsOfAction parts first action
