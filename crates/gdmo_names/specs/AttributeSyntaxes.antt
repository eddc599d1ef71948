-- AttributeSyntaxes: which syntax an attribute has: its type's, or that of the attribute that it derives from (X.722,
-- section 8.7; docs/PROFILE.md, section 12); and whether it is of a type, or of that of a component (OneType).
use Rattle.std.specs.Prelude.{◌≡◌, ◌+◌, List, Bool, true, false, Option, None, Some, if◌then◌else◌, ℕ}
use Rattle.std.specs.List.{list_any}
use Rattle.token_grammar.specs.declared.qualified_name.QualifiedName.{QualifiedName}
use Rattle.term_values.specs.Syntaxes.{Named, TypeSyntax, TypeParts}
use Rattle.term_values.specs.Syntaxes.TypeSyntax.{Integer, Enumerated, Sequence, SetType, Tagged}
use Rattle.term_values.specs.Syntaxes.TypeParts.{NoParts, Part}
use Rattle.asn1_names.specs.NodeCount.{IsNoType}
use Rattle.asn1_names.specs.StandardModule.{is_same_name}
use Rattle.gdmo_names.specs.LabelMeaning.{Leads, LeadsNowhere}
use Rattle.gdmo_names.specs.Mentions.Role.{BaseAttribute}
use Rattle.gdmo_names.specs.OneType.{AreOneType, HasDefaultsOf}
use Rattle.gdmo_names.specs.PartTerms.{Placed, PartTerms, module_terms_of, body_of}
use Rattle.gdmo_names.specs.TemplateTerms.{BodyTerm, SyntaxTerm}
use Rattle.gdmo_names.specs.TemplateTerms.BodyTerm.{AttributeBody}
use Rattle.gdmo_names.specs.TemplateTerms.SyntaxTerm.{OfType}
use Rattle.gdmo_names.specs.TypeMeaning.{qualified_meaning, TypeHasSyntax}

-- what an attribute template says of its syntax
abbrev pub syntax_of : BodyTerm → Option SyntaxTerm
syntax_of (AttributeBody syntax rules behaviours parameters) = Some syntax
syntax_of _ = None

-- an attribute is of the type that is named at the end of its DERIVED FROM. One that derives from itself is of none.
pub data AttributeHasType (parts : PartTerms) : Placed → QualifiedName → Type 0 where
  stated : {attribute : Placed} {name : QualifiedName} →
      syntax_of (body_of attribute.template) ≡ Some (OfType name) → AttributeHasType parts attribute name
  derived : {attribute base : Placed} {name : QualifiedName} → Leads parts attribute BaseAttribute base →
      AttributeHasType parts base name → AttributeHasType parts attribute name

-- an attribute has this syntax
pub record AttributeHasSyntax (parts : PartTerms) (attribute : Placed) (syntax : TypeSyntax) : Type 0 where
  pub name : QualifiedName
  pub of_type : AttributeHasType parts attribute name
  pub has : TypeHasSyntax (module_terms_of parts) name syntax

-- the syntax of an attribute isn't known: its type is missing, or an attribute on the way to it
pub data HasUnknownSyntax (parts : PartTerms) : Placed → Type 0 where
  stated : {attribute : Placed} {name : QualifiedName} →
      syntax_of (body_of attribute.template) ≡ Some (OfType name) →
      IsNoType (qualified_meaning (module_terms_of parts) name) → HasUnknownSyntax parts attribute
  missing : {attribute : Placed} → LeadsNowhere parts attribute BaseAttribute → HasUnknownSyntax parts attribute
  derived : {attribute base : Placed} → Leads parts attribute BaseAttribute base → HasUnknownSyntax parts base →
      HasUnknownSyntax parts attribute

-- the attribute is of the type that is named
pub record IsOfNamedType (parts : PartTerms) (attribute : Placed) (name : QualifiedName) : Type 0 where
  pub own : QualifiedName
  pub of_type : AttributeHasType parts attribute own
  pub same : AreOneType (module_terms_of parts) own name

-- the attribute is INTEGER, under any tags
abbrev pub is_whole_number : TypeSyntax → Bool
is_whole_number (Integer names bounds) = true
is_whole_number (Tagged tag explicit of) = is_whole_number of
is_whole_number _ = false

pub record IsWholeNumber (parts : PartTerms) (attribute : Placed) : Type 0 where
  pub syntax : TypeSyntax
  pub has : AttributeHasSyntax parts attribute syntax
  pub whole : is_whole_number syntax ≡ true

-- the first component of this name, in a SEQUENCE or SET under any tags: its place, counted from 0, and its syntax. So
-- many components stand before these.
abbrev pub part_called : List ℕ → ℕ → TypeParts → Option (ℕ × TypeSyntax)
part_called name k NoParts = None
part_called name k (Part its_name syntax optional default rest) =
    if is_same_name its_name name then Some (k, syntax) else part_called name (k + 1) rest

abbrev pub component_called : List ℕ → TypeSyntax → Option (ℕ × TypeSyntax)
component_called name (Sequence members) = part_called name 0 members
component_called name (SetType members) = part_called name 0 members
component_called name (Tagged tag explicit of) = component_called name of
component_called name _ = None

-- the component of this name is of the attribute's type
pub record IsComponentOf (parts : PartTerms) (information : QualifiedName) (name : List ℕ) (attribute : Placed)
    : Type 0 where
  pub whole : TypeSyntax
  pub is : TypeHasSyntax (module_terms_of parts) information whole
  pub place : ℕ
  pub syntax : TypeSyntax
  pub component : component_called name whole ≡ Some (place, syntax)
  pub own : QualifiedName
  pub of_type : AttributeHasType parts attribute own
  pub has : TypeHasSyntax (module_terms_of parts) own syntax
  pub defaults : HasDefaultsOf (module_terms_of parts) information place own

-- a syntax has a number of this name, under any tags
abbrev pub names_number : List ℕ → Named → Bool
names_number name names = list_any (λ x. is_same_name x.0 name) names

abbrev pub has_number_called : List ℕ → TypeSyntax → Bool
has_number_called name (Integer names bounds) = names_number name names
has_number_called name (Enumerated names) = names_number name names
has_number_called name (Tagged tag explicit of) = has_number_called name of
has_number_called name _ = false
