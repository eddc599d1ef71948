-- Roles: the kinds of templates, and where they are named, as the code has them (X.722, section 8).
use Rattle.gdmo_names.specs.declared.roles.Role.{Role as CodeRole}
use Rattle.gdmo_names.specs.declared.roles.Role.TheVariants as roles
use Rattle.gdmo_names.specs.declared.roles.TemplateKind.{TemplateKind as CodeKind}
use Rattle.gdmo_names.specs.declared.roles.TemplateKind.TheVariants as kinds
use Rattle.gdmo_names.specs.Mentions.{Role}
use Rattle.gdmo_names.specs.Mentions.Role.{Superclass, MandatoryPackage, ConditionalPackage, PackageAttribute}
use Rattle.gdmo_names.specs.Mentions.Role.{PackageGroup, AddedAttribute, PackageAction, PackageNotification}
use Rattle.gdmo_names.specs.Mentions.Role.{DerivationRule, SubordinateClass, SuperiorClass, NamingAttribute}
use Rattle.gdmo_names.specs.Mentions.Role.{BaseAttribute, ParameterAttribute, GroupElement, FieldAttribute}
use Rattle.gdmo_names.specs.Mentions.Role.{OfParameter, OfBehaviour, RuleClass, RuleAction, StepAttribute}
use Rattle.gdmo_names.specs.Mentions.Role.{StepNotification, InstanceClass, NameAttribute, GivenAttribute}
use Rattle.gdmo_names.specs.Mentions.Role.{ChosenPackage}
use Rattle.gdmo_names.specs.TemplateTerms.{TemplateKind}
use Rattle.gdmo_names.specs.TemplateTerms.TemplateKind.{ClassKind, PackageKind, ParameterKind, BindingKind}
use Rattle.gdmo_names.specs.TemplateTerms.TemplateKind.{AttributeKind, GroupKind, BehaviourKind, ActionKind}
use Rattle.gdmo_names.specs.TemplateTerms.TemplateKind.{NotificationKind}

abbrev pub kind_term : CodeKind → TemplateKind
kind_term kinds.Class = ClassKind
kind_term kinds.Package = PackageKind
kind_term kinds.Parameter = ParameterKind
kind_term kinds.Binding = BindingKind
kind_term kinds.Attribute = AttributeKind
kind_term kinds.Group = GroupKind
kind_term kinds.Behaviour = BehaviourKind
kind_term kinds.Action = ActionKind
kind_term kinds.Notification = NotificationKind

abbrev pub role_term : CodeRole → Role
role_term roles.Superclass = Superclass
role_term roles.MandatoryPackage = MandatoryPackage
role_term roles.ConditionalPackage = ConditionalPackage
role_term roles.PackageAttribute = PackageAttribute
role_term roles.PackageGroup = PackageGroup
role_term roles.AddedAttribute = AddedAttribute
role_term roles.PackageAction = PackageAction
role_term roles.PackageNotification = PackageNotification
role_term roles.DerivationRule = DerivationRule
role_term roles.SubordinateClass = SubordinateClass
role_term roles.SuperiorClass = SuperiorClass
role_term roles.NamingAttribute = NamingAttribute
role_term roles.BaseAttribute = BaseAttribute
role_term roles.ParameterAttribute = ParameterAttribute
role_term roles.GroupElement = GroupElement
role_term roles.FieldAttribute = FieldAttribute
role_term roles.OfParameter = OfParameter
role_term roles.OfBehaviour = OfBehaviour
role_term roles.RuleClass = RuleClass
role_term roles.RuleAction = RuleAction
role_term roles.StepAttribute = StepAttribute
role_term roles.StepNotification = StepNotification
role_term roles.InstanceClass = InstanceClass
role_term roles.NameAttribute = NameAttribute
role_term roles.GivenAttribute = GivenAttribute
role_term roles.ChosenPackage = ChosenPackage
