-- InRoles: the templates that are named in one role, of all that a template names (X.722, sections 8.3 to 8.11).
use Rattle.std.specs.Prelude.{◌==◌, ℕ, List, [], ◌∷◌, Bool, if◌then◌else◌}
use Rattle.gdmo_names.specs.Mentions.{Role, Mention}
use Rattle.gdmo_names.specs.Mentions.Role.{Superclass, MandatoryPackage, ConditionalPackage, PackageAttribute}
use Rattle.gdmo_names.specs.Mentions.Role.{PackageGroup, AddedAttribute, PackageAction, PackageNotification}
use Rattle.gdmo_names.specs.Mentions.Role.{DerivationRule, SubordinateClass, SuperiorClass, NamingAttribute}
use Rattle.gdmo_names.specs.Mentions.Role.{BaseAttribute, ParameterAttribute, GroupElement, FieldAttribute}
use Rattle.gdmo_names.specs.Mentions.Role.{OfParameter, OfBehaviour, RuleClass, RuleAction, StepAttribute}
use Rattle.gdmo_names.specs.Mentions.Role.{StepNotification, InstanceClass, NameAttribute, GivenAttribute}
use Rattle.gdmo_names.specs.Mentions.Role.{ChosenPackage}

-- a number for each role, by which two roles are told apart
abbrev pub role_number : Role → ℕ
role_number Superclass = 0
role_number MandatoryPackage = 1
role_number ConditionalPackage = 2
role_number PackageAttribute = 3
role_number PackageGroup = 4
role_number AddedAttribute = 5
role_number PackageAction = 6
role_number PackageNotification = 7
role_number DerivationRule = 8
role_number SubordinateClass = 9
role_number SuperiorClass = 10
role_number NamingAttribute = 11
role_number BaseAttribute = 12
role_number ParameterAttribute = 13
role_number GroupElement = 14
role_number FieldAttribute = 15
role_number OfParameter = 16
role_number OfBehaviour = 17
role_number RuleClass = 18
role_number RuleAction = 19
role_number StepAttribute = 20
role_number StepNotification = 21
role_number InstanceClass = 22
role_number NameAttribute = 23
role_number GivenAttribute = 24
role_number ChosenPackage = 25

abbrev pub is_role : Role → Role → Bool
is_role role other = role_number other == role_number role

-- what is named in the role
abbrev pub only : Role → List Mention → List Mention
only role [] = []
only role (x ∷ xs) = if is_role role x.role then x ∷ only role xs else only role xs
