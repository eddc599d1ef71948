-- BegunNames: with which first names some identifier or some value begins: of a template or a module, and of a value
-- that a module assigns, that stands behind DEFAULT, in a rule or at an instance, or within such a value (X.680,
-- section 32; docs/PROFILE.md, section 12).
use Rattle.std.specs.Prelude.{◌≡◌, ℕ, List, true, Option, None, Some, Contains, slice_get}
use Rattle.token_grammar.specs.declared.qualified_name.QualifiedName.{QualifiedName}
use Rattle.token_grammar.specs.declared.token.Token.{Token}
use Rattle.token_grammar.specs.Form.{Tree}
use Rattle.term_values.specs.Syntaxes.{TypeSyntax}
use Rattle.asn1_names.specs.Containment.{IsMember}
use Rattle.asn1_names.specs.DenotedSyntax.{Denotes}
use Rattle.asn1_names.specs.ModuleTerms.{NumberTerm, LimitTerm, TypeTerm, MemberTerms, AssignmentTerm, ModuleTerm}
use Rattle.asn1_names.specs.ModuleTerms.AssignedTerm.{AssignsValue}
use Rattle.asn1_names.specs.ModuleTerms.PresenceTerm.{DefaultTerm}
use Rattle.asn1_names.specs.ModuleTerms.TypeTerm.{Structure}
use Rattle.asn1_names.specs.Occurrences.{Stands}
use Rattle.asn1_names.specs.StandardModule.{is_same_name}
use Rattle.gdmo_names.specs.AttributeSyntaxes.{AttributeHasSyntax}
use Rattle.gdmo_names.specs.FirstNames.{StandsIdentifier}
use Rattle.gdmo_names.specs.LabelMeaning.{Means}
use Rattle.gdmo_names.specs.Mentions.Role.{StepAttribute, StepNotification, NameAttribute, GivenAttribute}
use Rattle.gdmo_names.specs.PartTerms.{Placed, PairTerm, RuleTerm, InstanceTerm, PartTerms, module_terms_of}
use Rattle.gdmo_names.specs.PartTerms.{body_of}
use Rattle.gdmo_names.specs.PartTerms.TakenTerm.{OtherValue}
use Rattle.gdmo_names.specs.PartTerms.StepTerm.{SetTo, EmitOf, ReplyWith}
use Rattle.gdmo_names.specs.RuleWords.{HasStep, IsOfAction, reply_of}
use Rattle.gdmo_names.specs.TemplateTerms.{IdentifierTerm, BodyTerm}
use Rattle.gdmo_names.specs.TemplateTerms.BodyTerm.{NotificationBody}
use Rattle.gdmo_names.specs.TemplateTerms.FirstTerm.{ArcName}
use Rattle.gdmo_names.specs.TemplateTerms.ReferenceTerm.{ByLabel}
use Rattle.gdmo_names.specs.TypeMeaning.{TypeHasSyntax}
use Rattle.gdmo_names.specs.ValueNames.{BeginsIn}

-- the type of a notification's information
abbrev pub told_of : BodyTerm → Option QualifiedName
told_of (NotificationBody behaviours parameters information _ reply) = information
told_of _ = None

-- a text stands for a value of this syntax
pub data StandsFor (parts : PartTerms) (text : Tree) (syntax : TypeSyntax) : Type 0 where
  assigned : {m : ℕ} {x : ModuleTerm} {assignment : AssignmentTerm} {of : TypeTerm} {number : Option NumberTerm} →
      slice_get (module_terms_of parts) m ≡ Some x → Contains x.assignments assignment →
      assignment.assigned ≡ AssignsValue of number text → Denotes (module_terms_of parts) m of syntax →
      StandsFor parts text syntax
  default : {document m k : ℕ} {word : Token} {members : MemberTerms} {limits : List LimitTerm} {of : TypeTerm} →
      Stands (module_terms_of parts) document m (Structure word members limits) →
      IsMember members k of (DefaultTerm text) → Denotes (module_terms_of parts) m of syntax →
      StandsFor parts text syntax
  set : {rule : RuleTerm} {label : Token} {attribute : Placed} →
      HasStep parts rule (SetTo label (OtherValue text)) →
      Means parts rule.document StepAttribute (ByLabel label) attribute →
      AttributeHasSyntax parts attribute syntax → StandsFor parts text syntax
  emitted : {rule : RuleTerm} {label : Token} {notification : Placed} {name : QualifiedName} →
      HasStep parts rule (EmitOf label (Some text)) →
      Means parts rule.document StepNotification (ByLabel label) notification →
      told_of (body_of notification.template) ≡ Some name → TypeHasSyntax (module_terms_of parts) name syntax →
      StandsFor parts text syntax
  replied : {rule : RuleTerm} {action : Placed} {name : QualifiedName} →
      HasStep parts rule (ReplyWith (OtherValue text)) → IsOfAction parts rule action →
      reply_of (body_of action.template) ≡ Some name → TypeHasSyntax (module_terms_of parts) name syntax →
      StandsFor parts text syntax
  naming : {instance : InstanceTerm} {pair : PairTerm} {attribute : Placed} → Contains parts.instances instance →
      Contains instance.name pair → pair.value ≡ text →
      Means parts instance.document NameAttribute (ByLabel pair.attribute) attribute →
      AttributeHasSyntax parts attribute syntax → StandsFor parts text syntax
  given : {instance : InstanceTerm} {pair : PairTerm} {attribute : Placed} → Contains parts.instances instance →
      Contains instance.given pair → pair.value ≡ text →
      Means parts instance.document GivenAttribute (ByLabel pair.attribute) attribute →
      AttributeHasSyntax parts attribute syntax → StandsFor parts text syntax

-- an identifier, or an object identifier in a value, begins with this name
pub data BeginsOne (parts : PartTerms) (name : List ℕ) : Type 0 where
  identifier : {document : ℕ} {x : IdentifierTerm} {first : Token} → StandsIdentifier parts document x →
      x.first ≡ ArcName first → is_same_name first.text name ≡ true → BeginsOne parts name
  value : {text : Tree} {syntax : TypeSyntax} {first : Token} → StandsFor parts text syntax →
      BeginsIn first syntax text → is_same_name first.text name ≡ true → BeginsOne parts name
