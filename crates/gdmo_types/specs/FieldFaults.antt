-- FieldFaults: what is wrong with the fields of AND ATTRIBUTE IDS: a field isn't a component whose type is the
-- attribute's (X.722, section 8.11; docs/PROFILE.md, section 12).
use Rattle.std.specs.Prelude.{◌≡◌, ℕ, List, Option, None, Some}
use Rattle.token_grammar.specs.declared.qualified_name.QualifiedName.{QualifiedName}
use Rattle.token_grammar.specs.declared.token.Token.{Token}
use Rattle.asn1_names.specs.NodeCount.{IsNoType}
use Rattle.gdmo_members.specs.declared.notification.Field.{Field as FieldText}
use Rattle.key_numbers.specs.KeyNumbers.{IsKeyNumber}
use Rattle.key_numbers.specs.NumberedLists.{Row}
use Rattle.key_numbers.specs.TypeKeys.{TypeKey}
use Rattle.gdmo_names.specs.AttributeSyntaxes.{HasUnknownSyntax, IsComponentOf}
use Rattle.gdmo_names.specs.FaultSets.{FaultSet, OneFault}
use Rattle.gdmo_names.specs.FirstLabelFault.LabelFault.{KindWrong}
use Rattle.gdmo_names.specs.LabelMeaning.{Means}
use Rattle.gdmo_names.specs.MemberViews.{attribute_reference, field_terms}
use Rattle.gdmo_names.specs.Mentions.{Mention, mention}
use Rattle.gdmo_names.specs.Mentions.Role.{FieldAttribute}
use Rattle.gdmo_names.specs.PartTerms.{Placed, PartTerms, body_of, module_terms_of}
use Rattle.gdmo_names.specs.TemplateTerms.{BodyTerm, ReferenceTerm, ReferenceTerms}
use Rattle.gdmo_names.specs.TemplateTerms.BodyTerm.{NotificationBody}
use Rattle.gdmo_names.specs.TypeMeaning.{qualified_meaning}
use Rattle.gdmo_names.specs.WrongKinds.{HasField, IsNoComponent}
use Rattle.gdmo_types.specs.declared.compared_types.ComparedType.{ComparedType}
use Rattle.gdmo_types.specs.declared.compared_types.ComparedType.TheVariants.{Missing, Nothing, Number}

-- a field of this name and with this attribute isn't a component of the type whose type is the attribute's
pub record IsOtherField (parts : PartTerms) (document : ℕ) (information : QualifiedName) (name : Token)
    (reference : ReferenceTerm) : Type 0 where
  pub known_type : ¬ IsNoType (qualified_meaning (module_terms_of parts) information)
  pub attribute : Placed
  pub means : Means parts document FieldAttribute reference attribute
  pub known : ¬ HasUnknownSyntax parts attribute
  pub other : ¬ IsComponentOf parts information name.text attribute

-- what is wrong with a field
abbrev pub FieldFault : PartTerms → ℕ → QualifiedName → FieldText → FaultSet
FieldFault parts document information x =
    OneFault (IsOtherField parts document information x.name (attribute_reference x.attribute)) KindWrong document
    x.name.at

-- what is wrong with the fields of one template
pub record HasOtherField (parts : PartTerms) (by : Placed) (name : Token) : Type 0 where
  pub information : QualifiedName
  pub reference : ReferenceTerm
  pub has : HasField information name reference (body_of by.template)
  pub other : IsOtherField parts by.document information name reference

abbrev pub TemplateFields : PartTerms → Placed → FaultSet
TemplateFields parts by kind document token = (name : Token) × HasOtherField parts by name × (KindWrong ≡ kind)
    × (by.document ≡ document) × (name.at ≡ token)

-- and with those of all templates
abbrev pub FieldFaults : PartTerms → FaultSet
FieldFaults parts kind document token = (name : Token) × IsNoComponent parts document name × (KindWrong ≡ kind)
    × (name.at ≡ token)

-- the attribute of a field is named in this part
abbrev pub field_mention : FieldText → Mention
field_mention x = mention FieldAttribute (attribute_reference x.attribute)

-- these are the fields of a notification
pub record AreFieldsOf (body : BodyTerm) (information : QualifiedName) (fields : List FieldText) : Type 0 where
  pub behaviours : ReferenceTerms
  pub parameters : ReferenceTerms
  pub reply : Option QualifiedName
  pub is : body ≡ NotificationBody behaviours parameters (Some information) (field_terms fields) reply

-- of the component of a type: there is none, or its type has this number
abbrev pub TellsPart : Row → Option TypeKey → ComparedType → Type 0
TellsPart row part Missing = ⊥
TellsPart row part Nothing = part ≡ None
TellsPart row part (Number n) = (key : TypeKey) × (part ≡ Some key) × IsKeyNumber row key n
