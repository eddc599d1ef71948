-- FirstNames: what the name means with which an object identifier begins, and which arcs an identifier has (X.660,
-- annex A; X.680, section 32; docs/PROFILE.md, section 12). The names of the three roots have their arcs; any other
-- name is that of an OBJECT IDENTIFIER value, in the first module that assigns it one.
use Rattle.std.specs.Prelude.{◌≡◌, ◌≢◌, ◌<◌, ◌&&◌, ℕ, List, ◌∷◌, ◌++◌, Bool, true, Option, None, Some, Contains}
use Rattle.std.specs.Prelude.{map, codes, if◌then◌else◌}
use Rattle.std.specs.List.{list_all}
use Rattle.std.specs.Str.Parse.{digits_value}
use Rattle.token_grammar.specs.declared.token.Token.{Token}
use Rattle.token_grammar.specs.Form.{Tree}
use Rattle.term_values.specs.Oid.{is_oid, is_arc}
use Rattle.asn1_names.specs.ModuleTerms.{LimitTerm, NumberTerm, TypeTerm, ModuleTerm}
use Rattle.asn1_names.specs.ModuleTerms.PlainTerm.{IdentifierTerm as ObjectIdentifierType}
use Rattle.asn1_names.specs.ModuleTerms.TypeTerm.{Plain}
use Rattle.asn1_names.specs.NameMeaning.{assigned_in}
use Rattle.asn1_names.specs.NameMeaning.Meaning.{TypeAt, ValueAt}
use Rattle.asn1_names.specs.StandardModule.{is_same_name, standard_type}
use Rattle.asn1_names.specs.TypeBase.{HasBase}
use Rattle.asn1_names.specs.TypeBase.Base.{Written}
use Rattle.gdmo_names.specs.DocumentTemplates.{templates}
use Rattle.gdmo_names.specs.PartTerms.{ModulePart, Placed, PartTerms, module_terms_of, arcs_at, identifier_of}
use Rattle.gdmo_names.specs.TemplateTerms.{IdentifierTerm}
use Rattle.gdmo_names.specs.TemplateTerms.FirstTerm.{ArcNumber, ArcName}

-- X.660, annex A: itu-t, or ccitt, is 0, iso 1, joint-iso-itu-t, or joint-iso-ccitt, 2
unfoldable pub root_arc : List ℕ → Option ℕ
root_arc name =
    if is_same_name name (codes "itu-t") then Some 0
    else if is_same_name name (codes "ccitt") then Some 0
    else if is_same_name name (codes "iso") then Some 1
    else if is_same_name name (codes "joint-iso-itu-t") then Some 2
    else if is_same_name name (codes "joint-iso-ccitt") then Some 2
    else None

-- a type is, beneath its names and tags, OBJECT IDENTIFIER
pub record IsIdentifierType (ms : List ModuleTerm) (m : ℕ) (of : TypeTerm) : Type 0 where
  pub written_in : ℕ
  pub word : Token
  pub limits : List LimitTerm
  pub base : HasBase ms m of (Written written_in (Plain word ObjectIdentifierType limits))

-- the module at the place m has, at the place i, an OBJECT IDENTIFIER value of this name
pub record DefinesName (parts : PartTerms) (name : List ℕ) (m i : ℕ) : Type 0 where
  pub of : TypeTerm
  pub number : Option NumberTerm
  pub text : Tree
  pub means : assigned_in (module_terms_of parts) m name ≡ ValueAt m i of number text
  pub is_identifier : IsIdentifierType (module_terms_of parts) m of

-- and no module before it has one
pub record DefinesNameFirst (parts : PartTerms) (name : List ℕ) (m i : ℕ) : Type 0 where
  pub defines : DefinesName parts name m i
  pub first : (v j : ℕ) → v < m → ¬ DefinesName parts name v j

-- some module, CMIP-1 among them, assigns the name
pub data IsAssigned (parts : PartTerms) (name : List ℕ) : Type 0 where
  type_of : {m i : ℕ} {of : TypeTerm} → assigned_in (module_terms_of parts) m name ≡ TypeAt m i of →
      IsAssigned parts name
  value_of : {m i : ℕ} {of : TypeTerm} {number : Option NumberTerm} {text : Tree} →
      assigned_in (module_terms_of parts) m name ≡ ValueAt m i of number text → IsAssigned parts name
  standard : standard_type name ≢ None → IsAssigned parts name

-- the number of an arc
abbrev pub arc_value : Token → ℕ
arc_value token = digits_value 10 token.text

-- the arcs of an identifier, its first name replaced. A name that leads back to itself has none.
pub data HasArcs (parts : PartTerms) : IdentifierTerm → List ℕ → Type 0 where
  number : {x : IdentifierTerm} {first : Token} → x.first ≡ ArcNumber first →
      HasArcs parts x (arc_value first ∷ map arc_value x.others)
  root : {x : IdentifierTerm} {name : Token} {arc : ℕ} → x.first ≡ ArcName name → root_arc name.text ≡ Some arc →
      HasArcs parts x (arc ∷ map arc_value x.others)
  defined : {x y : IdentifierTerm} {name : Token} {m i : ℕ} {arcs : List ℕ} → x.first ≡ ArcName name →
      root_arc name.text ≡ None → DefinesNameFirst parts name.text m i → arcs_at parts m i ≡ Some (Some y) →
      HasArcs parts y arcs → HasArcs parts x (arcs ++ map arc_value x.others)

-- these arcs are an object identifier: from 2 to 64 arcs below 2^32, the first two within X.660's bounds
abbrev pub are_identifier : List ℕ → Bool
are_identifier arcs = is_oid arcs && list_all is_arc arcs

pub record IsIdentifier (parts : PartTerms) (x : IdentifierTerm) (arcs : List ℕ) : Type 0 where
  pub has : HasArcs parts x arcs
  pub good : are_identifier arcs ≡ true

-- the first arc is a number, the name of a root, or a name that some module defines
pub data IsKnownFirst (parts : PartTerms) (x : IdentifierTerm) : Type 0 where
  number : {first : Token} → x.first ≡ ArcNumber first → IsKnownFirst parts x
  root : {name : Token} → x.first ≡ ArcName name → root_arc name.text ≢ None → IsKnownFirst parts x
  defined : {name : Token} {m i : ℕ} → x.first ≡ ArcName name → DefinesName parts name.text m i → IsKnownFirst parts x

-- a template is registered under an identifier
pub record Registers (parts : PartTerms) (by : Placed) (x : IdentifierTerm) : Type 0 where
  pub stands : Contains (templates parts) by
  pub is : identifier_of by.template ≡ Some x

-- an identifier stands in a document: of a template, of a module, or of one that is imported from
pub data StandsIdentifier (parts : PartTerms) (document : ℕ) (x : IdentifierTerm) : Type 0 where
  of_template : {by : Placed} → Registers parts by x → by.document ≡ document → StandsIdentifier parts document x
  of_module : {part : ModulePart} → Contains parts.modules part → part.text.document ≡ document →
      Contains part.identifiers x → StandsIdentifier parts document x
