-- WrongKinds: references that mean what may not stand there, a definition for each sentence, of a token of a
-- document; the number of a token is the octet at which it begins (X.722, section 8; docs/PROFILE.md, section 12).
use Rattle.std.specs.Prelude.{◌≡◌, ◌≢◌, ℕ, List, Bool, true, false, Option, None, Some, Contains}
use Rattle.token_grammar.specs.declared.qualified_name.QualifiedName.{QualifiedName}
use Rattle.token_grammar.specs.declared.token.Token.{Token}
use Rattle.asn1_names.specs.NameMeaning.{Meaning}
use Rattle.asn1_names.specs.NameMeaning.Meaning.{TypeAt, ValueAt, StandardType}
use Rattle.asn1_names.specs.NodeCount.{IsNoType}
use Rattle.gdmo_names.specs.AttributeSyntaxes.{HasUnknownSyntax, IsComponentOf}
use Rattle.gdmo_names.specs.DocumentTemplates.{templates}
use Rattle.gdmo_names.specs.FirstNames.{DefinesName, IsAssigned, IsIdentifier, IsKnownFirst, Registers}
use Rattle.gdmo_names.specs.FirstNames.{StandsIdentifier, root_arc}
use Rattle.gdmo_names.specs.LabelMeaning.{Means, label_meaning, reference_token}
use Rattle.gdmo_names.specs.Mentions.{Role, must_be_registered, wanted_kind}
use Rattle.gdmo_names.specs.Mentions.Role.{PackageGroup, FieldAttribute}
use Rattle.gdmo_names.specs.PartTerms.{Placed, RuleTerm, PartTerms, module_terms_of, body_of, identifier_of, kind_of}
use Rattle.gdmo_names.specs.References.{Refers}
use Rattle.gdmo_names.specs.RuleFaults.{NamesNamingAttribute, NamesForeignAttribute, AddsToOther, HasOtherType}
use Rattle.gdmo_names.specs.RuleFaults.{IsStatedTwice}
use Rattle.gdmo_names.specs.TemplateTerms.{IdentifierTerm, ReferenceTerm, ReferenceTerms, BodyTerm}
use Rattle.gdmo_names.specs.TemplateTerms.{RowTerms, FieldTerms}
use Rattle.gdmo_names.specs.TemplateTerms.FirstTerm.{ArcName}
use Rattle.gdmo_names.specs.TemplateTerms.ReferenceTerm.{ByLabel}
use Rattle.gdmo_names.specs.TemplateTerms.ReferenceTerms.{Reference}
use Rattle.gdmo_names.specs.TemplateTerms.BodyTerm.{PackageBody, GroupBody, NotificationBody}
use Rattle.gdmo_names.specs.TemplateTerms.RowTerms.{Row}
use Rattle.gdmo_names.specs.TemplateTerms.FieldTerms.{Field}
use Rattle.gdmo_names.specs.TypeMeaning.{NamesType, NamesValue, qualified_meaning}

-- the label means a template of another kind than the one that is wanted
pub record IsOfOtherKind (parts : PartTerms) (document : ℕ) (label : Token) : Type 0 where
  pub role : Role
  pub refers : Refers parts document role (ByLabel label)
  pub to : Placed
  pub means : label_meaning parts label.text ≡ Some to
  pub other : kind_of to.template ≢ wanted_kind role

-- `Module.Type` means a value, or `Module.value` a type
abbrev pub IsValueMeaning : Meaning → Type 0
IsValueMeaning (ValueAt m i of number text) = Unit {0}
IsValueMeaning _ = ⊥

abbrev pub IsTypeMeaning : Meaning → Type 0
IsTypeMeaning (TypeAt m i of) = Unit {0}
IsTypeMeaning (StandardType syntax) = Unit {0}
IsTypeMeaning _ = ⊥

pub data IsOfOtherSort (parts : PartTerms) (document : ℕ) (name : QualifiedName) : Type 0 where
  value_for_type : NamesType parts document name → IsValueMeaning (qualified_meaning (module_terms_of parts) name) →
      IsOfOtherSort parts document name
  type_for_value : NamesValue parts document name → IsTypeMeaning (qualified_meaning (module_terms_of parts) name) →
      IsOfOtherSort parts document name

-- an identifier begins with a name that is assigned, but in no module to an OBJECT IDENTIFIER value
pub record IsNoFirstName (parts : PartTerms) (document : ℕ) (name : Token) : Type 0 where
  pub identifier : IdentifierTerm
  pub stands : StandsIdentifier parts document identifier
  pub is_first : identifier.first ≡ ArcName name
  pub no_root : root_arc name.text ≡ None
  pub assigned : IsAssigned parts name.text
  pub undefined : (m i : ℕ) → ¬ DefinesName parts name.text m i

-- an attribute, or a package, that must be registered isn't
pub record IsUnregistered (parts : PartTerms) (document : ℕ) (reference : ReferenceTerm) : Type 0 where
  pub role : Role
  pub must : must_be_registered role ≡ true
  pub refers : Refers parts document role reference
  pub to : Placed
  pub means : Means parts document role reference to
  pub unregistered : identifier_of to.template ≡ None

-- what a package says of its groups; a group with the attributes behind it stands there
abbrev pub groups_of : BodyTerm → Option RowTerms
groups_of (PackageBody behaviours attributes groups actions notifications) = Some groups
groups_of _ = None

pub data IsRow (one : ReferenceTerm) (behind : ReferenceTerms) : RowTerms → Type 0 where
  first : {rest : RowTerms} → IsRow one behind (Row one behind rest)
  later : {its_one : ReferenceTerm} {its_behind : ReferenceTerms} {rest : RowTerms} → IsRow one behind rest →
      IsRow one behind (Row its_one its_behind rest)

abbrev pub is_fixed : BodyTerm → Bool
is_fixed (GroupBody elements fixed) = fixed
is_fixed _ = false

-- a package adds an attribute to a group that is FIXED
pub record AddsToFixed (parts : PartTerms) (document : ℕ) (reference : ReferenceTerm) : Type 0 where
  pub by : Placed
  pub stands : Contains (templates parts) by
  pub is_in : by.document ≡ document
  pub groups : RowTerms
  pub has : groups_of (body_of by.template) ≡ Some groups
  pub added : ReferenceTerm
  pub others : ReferenceTerms
  pub row : IsRow reference (Reference added others) groups
  pub to : Placed
  pub means : Means parts document PackageGroup reference to
  pub fixed : is_fixed (body_of to.template) ≡ true

-- what a notification says of the type of its information, and of the fields of it
pub data IsField (name : Token) (attribute : ReferenceTerm) : FieldTerms → Type 0 where
  first : {rest : FieldTerms} → IsField name attribute (Field name attribute rest)
  later : {its_name : Token} {its_attribute : ReferenceTerm} {rest : FieldTerms} → IsField name attribute rest →
      IsField name attribute (Field its_name its_attribute rest)

pub data HasField (information : QualifiedName) (name : Token) (attribute : ReferenceTerm) : BodyTerm → Type 0 where
  has_field : {behaviours parameters : ReferenceTerms} {fields : FieldTerms} {reply : Option QualifiedName} →
      IsField name attribute fields →
      HasField information name attribute (NotificationBody behaviours parameters (Some information) fields reply)

-- a field of AND ATTRIBUTE IDS isn't a component whose type is the attribute's
pub record IsNoComponent (parts : PartTerms) (document : ℕ) (name : Token) : Type 0 where
  pub by : Placed
  pub stands : Contains (templates parts) by
  pub is_in : by.document ≡ document
  pub information : QualifiedName
  pub reference : ReferenceTerm
  pub has : HasField information name reference (body_of by.template)
  pub known_type : ¬ IsNoType (qualified_meaning (module_terms_of parts) information)
  pub attribute : Placed
  pub means : Means parts document FieldAttribute reference attribute
  pub known : ¬ HasUnknownSyntax parts attribute
  pub other : ¬ IsComponentOf parts information name.text attribute

-- an identifier under which a template is registered is, its first name replaced, no object identifier
pub record IsNoIdentifier (parts : PartTerms) (document : ℕ) (brace : Token) : Type 0 where
  pub by : Placed
  pub identifier : IdentifierTerm
  pub registers : Registers parts by identifier
  pub is_in : by.document ≡ document
  pub is_brace : identifier.brace ≡ brace
  pub known : IsKnownFirst parts identifier
  pub bad : (arcs : List ℕ) → ¬ IsIdentifier parts identifier arcs

-- the sentence, of a token of a document
pub data WrongKindAt (parts : PartTerms) (document at : ℕ) : Type 0 where
  other_kind : {label : Token} → IsOfOtherKind parts document label → label.at ≡ at → WrongKindAt parts document at
  other_sort : {name : QualifiedName} → IsOfOtherSort parts document name → name.name.at ≡ at →
      WrongKindAt parts document at
  no_first_name : {name : Token} → IsNoFirstName parts document name → name.at ≡ at → WrongKindAt parts document at
  unregistered : {reference : ReferenceTerm} → IsUnregistered parts document reference →
      (reference_token reference).at ≡ at → WrongKindAt parts document at
  fixed_group : {reference : ReferenceTerm} → AddsToFixed parts document reference →
      (reference_token reference).at ≡ at → WrongKindAt parts document at
  no_component : {name : Token} → IsNoComponent parts document name → name.at ≡ at → WrongKindAt parts document at
  no_identifier : {brace : Token} → IsNoIdentifier parts document brace → brace.at ≡ at →
      WrongKindAt parts document at
  naming_attribute : {rule : RuleTerm} {label : Token} → NamesNamingAttribute parts rule label →
      rule.document ≡ document → label.at ≡ at → WrongKindAt parts document at
  foreign_attribute : {rule : RuleTerm} {label : Token} → NamesForeignAttribute parts rule label →
      rule.document ≡ document → label.at ≡ at → WrongKindAt parts document at
  other_type : {rule : RuleTerm} {word : Token} → HasOtherType parts rule word → rule.document ≡ document →
      word.at ≡ at → WrongKindAt parts document at
  no_whole_number : {rule : RuleTerm} {label : Token} → AddsToOther parts rule label → rule.document ≡ document →
      label.at ≡ at → WrongKindAt parts document at
  stated_twice : {rule : RuleTerm} → IsStatedTwice parts rule → rule.document ≡ document → rule.class.at ≡ at →
      WrongKindAt parts document at
