-- Mentions: which templates a template names, and in which part each stands: what kind is wanted there, and whether
-- it must be registered (X.722, sections 8.3 to 8.11; docs/PROFILE.md, section 12).
use Rattle.std.specs.Prelude.{List, [], ◌∷◌, ◌++◌, Bool, true, false}
use Rattle.gdmo_names.specs.PartTerms.{body_of}
use Rattle.gdmo_names.specs.TemplateTerms.{TemplateKind, ReferenceTerm, ReferenceTerms, TemplateTerm, BodyTerm}
use Rattle.gdmo_names.specs.TemplateTerms.{SyntaxTerm, StatedTerm, UseTerms, RowTerms, LifeTerm, FieldTerms}
use Rattle.gdmo_names.specs.TemplateTerms.TemplateKind.{ClassKind, PackageKind, ParameterKind, AttributeKind}
use Rattle.gdmo_names.specs.TemplateTerms.TemplateKind.{GroupKind, BehaviourKind, ActionKind, NotificationKind}
use Rattle.gdmo_names.specs.TemplateTerms.ReferenceTerms.{NoReferences, Reference}
use Rattle.gdmo_names.specs.TemplateTerms.BodyTerm.{ClassBody, PackageBody, ParameterBody, BindingBody}
use Rattle.gdmo_names.specs.TemplateTerms.BodyTerm.{AttributeBody, GroupBody, BehaviourBody, ActionBody}
use Rattle.gdmo_names.specs.TemplateTerms.BodyTerm.{NotificationBody}
use Rattle.gdmo_names.specs.TemplateTerms.SyntaxTerm.{OfType, OfAttribute}
use Rattle.gdmo_names.specs.TemplateTerms.StatedTerm.{NotStated, StatedValue, ByRule}
use Rattle.gdmo_names.specs.TemplateTerms.UseTerms.{NoUses, Use}
use Rattle.gdmo_names.specs.TemplateTerms.RowTerms.{NoRows, Row}
use Rattle.gdmo_names.specs.TemplateTerms.LifeTerm.{NoLife, Life}
use Rattle.gdmo_names.specs.TemplateTerms.FieldTerms.{NoFields, Field}

-- where a template is named
pub data Role : Type 0 where
  -- in a class
  Superclass : Role
  MandatoryPackage : Role
  ConditionalPackage : Role
  -- in a package
  PackageAttribute : Role
  PackageGroup : Role
  AddedAttribute : Role
  PackageAction : Role
  PackageNotification : Role
  DerivationRule : Role
  -- in a name binding
  SubordinateClass : Role
  SuperiorClass : Role
  NamingAttribute : Role
  -- in other templates
  BaseAttribute : Role
  ParameterAttribute : Role
  GroupElement : Role
  FieldAttribute : Role
  OfParameter : Role
  OfBehaviour : Role
  -- in a rule
  RuleClass : Role
  RuleAction : Role
  StepAttribute : Role
  StepNotification : Role
  -- in an instance
  InstanceClass : Role
  NameAttribute : Role
  GivenAttribute : Role
  ChosenPackage : Role

-- the kind of template that is wanted
abbrev pub wanted_kind : Role → TemplateKind
wanted_kind Superclass = ClassKind
wanted_kind MandatoryPackage = PackageKind
wanted_kind ConditionalPackage = PackageKind
wanted_kind PackageAttribute = AttributeKind
wanted_kind PackageGroup = GroupKind
wanted_kind AddedAttribute = AttributeKind
wanted_kind PackageAction = ActionKind
wanted_kind PackageNotification = NotificationKind
wanted_kind DerivationRule = BehaviourKind
wanted_kind SubordinateClass = ClassKind
wanted_kind SuperiorClass = ClassKind
wanted_kind NamingAttribute = AttributeKind
wanted_kind BaseAttribute = AttributeKind
wanted_kind ParameterAttribute = AttributeKind
wanted_kind GroupElement = AttributeKind
wanted_kind FieldAttribute = AttributeKind
wanted_kind OfParameter = ParameterKind
wanted_kind OfBehaviour = BehaviourKind
wanted_kind RuleClass = ClassKind
wanted_kind RuleAction = ActionKind
wanted_kind StepAttribute = AttributeKind
wanted_kind StepNotification = NotificationKind
wanted_kind InstanceClass = ClassKind
wanted_kind NameAttribute = AttributeKind
wanted_kind GivenAttribute = AttributeKind
wanted_kind ChosenPackage = PackageKind

-- The template must be registered: what is compiled names it by its identifier. DERIVED FROM and a parameter's
-- ATTRIBUTE need none; a step names an attribute of a package, where it is asked already.
abbrev pub must_be_registered : Role → Bool
must_be_registered PackageAttribute = true
must_be_registered AddedAttribute = true
must_be_registered NamingAttribute = true
must_be_registered GroupElement = true
must_be_registered FieldAttribute = true
must_be_registered NameAttribute = true
must_be_registered GivenAttribute = true
must_be_registered ChosenPackage = true
must_be_registered _ = false

-- a template is named in this part
pub record Mention : Type 0 where
  pub role : Role
  pub reference : ReferenceTerm

abbrev pub mention : Role → ReferenceTerm → Mention
mention role reference = record { role = role; reference = reference }

abbrev pub mentions : Role → ReferenceTerms → List Mention
mentions role NoReferences = []
mentions role (Reference x xs) = mention role x ∷ mentions role xs

abbrev pub stated_mentions : StatedTerm → List Mention
stated_mentions NotStated = []
stated_mentions (StatedValue name) = []
stated_mentions (ByRule rule) = mention DerivationRule rule ∷ []

abbrev pub use_mentions : UseTerms → List Mention
use_mentions NoUses = []
use_mentions (Use attribute default initial permitted required words parameters rest) =
    mention PackageAttribute attribute ∷ (stated_mentions default ++ (stated_mentions initial
    ++ (mentions OfParameter parameters ++ use_mentions rest)))

abbrev pub row_mentions : Role → Role → RowTerms → List Mention
row_mentions role behind NoRows = []
row_mentions role behind (Row x xs rest) = mention role x ∷ (mentions behind xs ++ row_mentions role behind rest)

abbrev pub syntax_mentions : Role → SyntaxTerm → List Mention
syntax_mentions role (OfType name) = []
syntax_mentions role (OfAttribute attribute) = mention role attribute ∷ []

abbrev pub life_mentions : LifeTerm → List Mention
life_mentions NoLife = []
life_mentions (Life words parameters) = mentions OfParameter parameters

abbrev pub field_mentions : FieldTerms → List Mention
field_mentions NoFields = []
field_mentions (Field name attribute rest) = mention FieldAttribute attribute ∷ field_mentions rest

abbrev pub body_mentions : BodyTerm → List Mention
body_mentions (ClassBody superclasses mandatory conditional) = mentions Superclass superclasses
    ++ (mentions MandatoryPackage mandatory ++ mentions ConditionalPackage conditional)
body_mentions (PackageBody behaviours attributes groups actions notifications) = mentions OfBehaviour behaviours
    ++ (use_mentions attributes ++ (row_mentions PackageGroup AddedAttribute groups
    ++ (row_mentions PackageAction OfParameter actions ++ row_mentions PackageNotification OfParameter notifications)))
body_mentions (ParameterBody syntax behaviours) =
    syntax_mentions ParameterAttribute syntax ++ mentions OfBehaviour behaviours
body_mentions (BindingBody below below_all above above_all attribute behaviours create delete) =
    mention SubordinateClass below ∷ mention SuperiorClass above ∷ mention NamingAttribute attribute
    ∷ (mentions OfBehaviour behaviours ++ (life_mentions create ++ life_mentions delete))
body_mentions (AttributeBody syntax rules behaviours parameters) = syntax_mentions BaseAttribute syntax
    ++ (mentions OfBehaviour behaviours ++ mentions OfParameter parameters)
body_mentions (GroupBody elements fixed) = mentions GroupElement elements
body_mentions BehaviourBody = []
body_mentions (ActionBody behaviours confirmed parameters information reply) =
    mentions OfBehaviour behaviours ++ mentions OfParameter parameters
body_mentions (NotificationBody behaviours parameters information fields reply) =
    mentions OfBehaviour behaviours ++ (mentions OfParameter parameters ++ field_mentions fields)

-- the templates that a template names itself, those that stand in line among them
abbrev pub template_mentions : TemplateTerm → List Mention
template_mentions x = body_mentions (body_of x)
