-- PartTerms: what a set of documents says, as the definitions see it: the modules with the identifiers that stand in
-- them, the templates that don't stand in line, the rules and the instances, each with the number of its document
-- (docs/PROFILE.md, sections 2, 8 and 9).
use Rattle.std.specs.Prelude.{ℕ, List, Bool, Option, None, Some, map, slice_get}
use Rattle.token_grammar.specs.declared.token.Token.{Token}
use Rattle.token_grammar.specs.Form.{Tree}
use Rattle.asn1_names.specs.ModuleTerms.{ModuleTerm}
use Rattle.gdmo_names.specs.TemplateTerms.{TemplateKind, IdentifierTerm, TemplateTerm, BodyTerm}
use Rattle.gdmo_names.specs.TemplateTerms.TemplateKind.{ClassKind, PackageKind, ParameterKind, BindingKind}
use Rattle.gdmo_names.specs.TemplateTerms.TemplateKind.{AttributeKind, GroupKind, BehaviourKind, ActionKind}
use Rattle.gdmo_names.specs.TemplateTerms.TemplateKind.{NotificationKind}
use Rattle.gdmo_names.specs.TemplateTerms.TemplateTerm.{Template}
use Rattle.gdmo_names.specs.TemplateTerms.BodyTerm.{ClassBody, PackageBody, ParameterBody, BindingBody}
use Rattle.gdmo_names.specs.TemplateTerms.BodyTerm.{AttributeBody, GroupBody, BehaviourBody, ActionBody}
use Rattle.gdmo_names.specs.TemplateTerms.BodyTerm.{NotificationBody}

-- a module, its identifier and those of the modules that it imports from, where they stand, and for each assignment
-- what it says as an object identifier, where it can be read as one
pub record ModulePart : Type 0 where
  pub text : ModuleTerm
  pub identifiers : List IdentifierTerm
  pub arcs : List (Option IdentifierTerm)

-- a template, and the number of the document in which it stands, in line or not
pub record Placed : Type 0 where
  pub document : ℕ
  pub template : TemplateTerm

-- what SET or REPLY takes: the one word ARGUMENT, any other word alone, or any other value
pub data TakenTerm : Type 0 where
  TheArgument : Token → TakenTerm
  OneWord : Token → TakenTerm
  OtherValue : Tree → TakenTerm

pub data StepTerm : Type 0 where
  -- SET attribute TO ..
  SetTo : Token → TakenTerm → StepTerm
  -- ADD number TO attribute
  AddTo : Token → Token → StepTerm
  -- EMIT notification, and its value, where one stands
  EmitOf : Token → Option Tree → StepTerm
  -- REPLY ..
  ReplyWith : TakenTerm → StepTerm

-- ON class ACTION action DO steps
pub record RuleTerm : Type 0 where
  pub document : ℕ
  pub class : Token
  pub action : Token
  pub steps : List StepTerm

-- attribute = value
pub record PairTerm : Type 0 where
  pub attribute : Token
  pub value : Tree

-- ROOT or OBJECT class AT name WITH pairs PACKAGES packages
pub record InstanceTerm : Type 0 where
  pub document : ℕ
  pub is_root : Bool
  pub class : Token
  pub name : List PairTerm
  pub given : List PairTerm
  pub packages : List Token

-- what the documents say
pub record PartTerms : Type 0 where
  pub modules : List ModulePart
  pub outermost : List Placed
  pub rules : List RuleTerm
  pub instances : List InstanceTerm

abbrev pub module_terms_of : PartTerms → List ModuleTerm
module_terms_of parts = map (λ x. x.text) parts.modules

-- what the assignment at the place i of the module at the place m says as an object identifier
abbrev pub arcs_in : Option ModulePart → ℕ → Option (Option IdentifierTerm)
arcs_in None i = None
arcs_in (Some x) i = slice_get x.arcs i

unfoldable pub arcs_at : PartTerms → ℕ → ℕ → Option (Option IdentifierTerm)
arcs_at parts m i = arcs_in (slice_get parts.modules m) i

-- the kind, the label, the identifier and the clauses of a template
abbrev pub kind_of_body : BodyTerm → TemplateKind
kind_of_body (ClassBody _ _ _) = ClassKind
kind_of_body (PackageBody _ _ _ _ _) = PackageKind
kind_of_body (ParameterBody _ _) = ParameterKind
kind_of_body (BindingBody _ _ _ _ _ _ _ _) = BindingKind
kind_of_body (AttributeBody _ _ _ _) = AttributeKind
kind_of_body (GroupBody _ _) = GroupKind
kind_of_body BehaviourBody = BehaviourKind
kind_of_body (ActionBody _ _ _ _ _) = ActionKind
kind_of_body (NotificationBody _ _ _ _ _) = NotificationKind

abbrev pub label_of : TemplateTerm → Token
label_of (Template label identifier body) = label

abbrev pub identifier_of : TemplateTerm → Option IdentifierTerm
identifier_of (Template label identifier body) = identifier

abbrev pub body_of : TemplateTerm → BodyTerm
body_of (Template label identifier body) = body

abbrev pub kind_of : TemplateTerm → TemplateKind
kind_of x = kind_of_body (body_of x)
