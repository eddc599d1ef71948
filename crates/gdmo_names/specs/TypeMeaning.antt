-- TypeMeaning: what `Module.Type` and `Module.value` mean in a template, and which ones a template names (X.680,
-- section 14; X.722, section 8; docs/PROFILE.md, sections 11 and 12). A module has what it assigns, and not what it
-- imports.
use Rattle.std.specs.Prelude.{◌≡◌, ℕ, List, [], ◌∷◌, ◌++◌, Option, None, Some, Contains}
use Rattle.token_grammar.specs.declared.qualified_name.QualifiedName.{QualifiedName}
use Rattle.term_values.specs.Syntaxes.{TypeSyntax}
use Rattle.asn1_names.specs.DenotedSyntax.{Denotes}
use Rattle.asn1_names.specs.ModuleTerms.{TypeTerm, ModuleTerm}
use Rattle.asn1_names.specs.NameMeaning.{Meaning, meaning_within, module_meaning}
use Rattle.asn1_names.specs.NameMeaning.Meaning.{TypeAt, StandardType}
use Rattle.gdmo_names.specs.DocumentTemplates.{templates}
use Rattle.gdmo_names.specs.PartTerms.{Placed, PartTerms, body_of}
use Rattle.gdmo_names.specs.TemplateTerms.{BodyTerm, SyntaxTerm, StatedTerm, UseTerms}
use Rattle.gdmo_names.specs.TemplateTerms.BodyTerm.{PackageBody, ParameterBody, AttributeBody, ActionBody}
use Rattle.gdmo_names.specs.TemplateTerms.BodyTerm.{NotificationBody}
use Rattle.gdmo_names.specs.TemplateTerms.SyntaxTerm.{OfType, OfAttribute}
use Rattle.gdmo_names.specs.TemplateTerms.StatedTerm.{NotStated, StatedValue, ByRule}
use Rattle.gdmo_names.specs.TemplateTerms.UseTerms.{NoUses, Use}

unfoldable pub qualified_meaning : List ModuleTerm → QualifiedName → Meaning
qualified_meaning ms name = meaning_within ms (module_meaning ms name.module_name.text) name.name.text

-- the type that is named has this syntax
pub data TypeHasSyntax (ms : List ModuleTerm) (name : QualifiedName) (syntax : TypeSyntax) : Type 0 where
  assigned : {m i : ℕ} {of : TypeTerm} → qualified_meaning ms name ≡ TypeAt m i of → Denotes ms m of syntax →
      TypeHasSyntax ms name syntax
  standard : qualified_meaning ms name ≡ StandardType syntax → TypeHasSyntax ms name syntax

-- a name, where one stands
abbrev pub name_list : Option QualifiedName → List QualifiedName
name_list None = []
name_list (Some name) = name ∷ []

-- the types that a template names
abbrev pub use_types : UseTerms → List QualifiedName
use_types NoUses = []
use_types (Use attribute default initial permitted required words parameters rest) =
    name_list permitted ++ (name_list required ++ use_types rest)

abbrev pub syntax_types : SyntaxTerm → List QualifiedName
syntax_types (OfType name) = name ∷ []
syntax_types (OfAttribute attribute) = []

abbrev pub type_names : BodyTerm → List QualifiedName
type_names (PackageBody behaviours attributes groups actions notifications) = use_types attributes
type_names (ParameterBody syntax behaviours) = syntax_types syntax
type_names (AttributeBody syntax rules behaviours parameters) = syntax_types syntax
type_names (ActionBody behaviours confirmed parameters information reply) = name_list information ++ name_list reply
type_names (NotificationBody behaviours parameters information _ reply) = name_list information ++ name_list reply
type_names _ = []

-- the values that a template names: DEFAULT VALUE and INITIAL VALUE
abbrev pub stated_values : StatedTerm → List QualifiedName
stated_values NotStated = []
stated_values (StatedValue name) = name ∷ []
stated_values (ByRule rule) = []

abbrev pub use_values : UseTerms → List QualifiedName
use_values NoUses = []
use_values (Use attribute default initial permitted required words parameters rest) =
    stated_values default ++ (stated_values initial ++ use_values rest)

abbrev pub value_names : BodyTerm → List QualifiedName
value_names (PackageBody behaviours attributes groups actions notifications) = use_values attributes
value_names _ = []

-- a template of the document names the type, or the value
pub record NamesType (parts : PartTerms) (document : ℕ) (name : QualifiedName) : Type 0 where
  pub by : Placed
  pub stands : Contains (templates parts) by
  pub is_in : by.document ≡ document
  pub names : Contains (type_names (body_of by.template)) name

pub record NamesValue (parts : PartTerms) (document : ℕ) (name : QualifiedName) : Type 0 where
  pub by : Placed
  pub stands : Contains (templates parts) by
  pub is_in : by.document ≡ document
  pub names : Contains (value_names (body_of by.template)) name
