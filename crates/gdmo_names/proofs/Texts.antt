-- Texts: short terms of which the examples are made.
use Rattle.std.specs.Prelude.{ℕ, List, [], ◌∷◌, None, Some, Option, codes}
use Rattle.token_grammar.specs.declared.qualified_name.QualifiedName.{QualifiedName}
use Rattle.token_grammar.specs.declared.token.Token.{Token}
use Rattle.token_grammar.specs.Kinds.{word_kind, number_kind, sign_kind}
use Rattle.gdmo_names.specs.PartTerms.{Placed, PartTerms}
use Rattle.gdmo_names.specs.TemplateTerms.{IdentifierTerm, ReferenceTerm, ReferenceTerms, TemplateTerm}
use Rattle.gdmo_names.specs.TemplateTerms.{UseTerms}
use Rattle.gdmo_names.specs.TemplateTerms.FirstTerm.{ArcNumber, ArcName}
use Rattle.gdmo_names.specs.TemplateTerms.ReferenceTerms.{NoReferences, Reference}
use Rattle.gdmo_names.specs.TemplateTerms.TemplateTerm.{Template}
use Rattle.gdmo_names.specs.TemplateTerms.BodyTerm.{ClassBody, PackageBody, AttributeBody}
use Rattle.gdmo_names.specs.TemplateTerms.SyntaxTerm.{OfType}
use Rattle.gdmo_names.specs.TemplateTerms.StatedTerm.{NotStated}
use Rattle.gdmo_names.specs.TemplateTerms.UseTerms.{Use}
use Rattle.gdmo_names.specs.TemplateTerms.RowTerms.{NoRows}

-- a word, digits, and a brace, at a place
abbrev pub word : ℕ → List ℕ → Token
word at text = record { kind = word_kind; at = at; text = text }

abbrev pub digits : ℕ → List ℕ → Token
digits at text = record { kind = number_kind; at = at; text = text }

abbrev pub brace : ℕ → Token
brace at = record { kind = sign_kind; at = at; text = codes "{" }

-- `{2 999 a b}`, and `{name b}`
abbrev pub arcs_of : ℕ → List ℕ → List ℕ → IdentifierTerm
arcs_of at a b = record {
  brace = brace at;
  first = ArcNumber (digits at (codes "2"));
  others = digits at (codes "999") ∷ digits at a ∷ digits at b ∷ [];
}

abbrev pub named_arcs : ℕ → Token → List ℕ → IdentifierTerm
named_arcs at name b = record { brace = brace at; first = ArcName name; others = digits at b ∷ [] }

abbrev pub qualified : Token → Token → QualifiedName
qualified module_name name = record { module_name = module_name; name = name }

-- `label ATTRIBUTE WITH ATTRIBUTE SYNTAX type; ..`
abbrev pub attribute_of : Token → QualifiedName → Option IdentifierTerm → TemplateTerm
attribute_of label name identifier =
    Template label identifier (AttributeBody (OfType name) [] NoReferences NoReferences)

-- `label PACKAGE ATTRIBUTES ..`
abbrev pub package_of : Token → Option IdentifierTerm → UseTerms → TemplateTerm
package_of label identifier attributes =
    Template label identifier (PackageBody NoReferences attributes NoRows NoRows NoRows)

-- an attribute of a package, without parameters and values
abbrev pub use_of : ReferenceTerm → List Token → UseTerms → UseTerms
use_of attribute words rest = Use attribute NotStated NotStated None None words NoReferences rest

-- `label MANAGED OBJECT CLASS CHARACTERIZED BY package; ..`
abbrev pub class_of : Token → IdentifierTerm → ReferenceTerms → ReferenceTerms → TemplateTerm
class_of label identifier superclasses packages =
    Template label (Some identifier) (ClassBody superclasses packages NoReferences)

abbrev pub one_reference : ReferenceTerm → ReferenceTerms
one_reference x = Reference x NoReferences

abbrev pub placed : ℕ → TemplateTerm → Placed
placed document template = record { document = document; template = template }

-- documents with these templates and nothing else
abbrev pub of_templates : List Placed → PartTerms
of_templates xs = record { modules = []; outermost = xs; rules = []; instances = [] }
