-- TypeChains: where DERIVED FROM of an attribute leads on, by the numbers of the templates, and of which type an
-- attribute is at the end (X.722, section 8.7; docs/PROFILE.md, section 12).
use Rattle.std.specs.Prelude.{◌≡◌, ℕ, List, Option, None, Some, length, slice_get}
use Rattle.token_grammar.specs.declared.qualified_name.QualifiedName.{QualifiedName}
use Rattle.link_graphs.specs.declared.chains.Link.{Link}
use Rattle.link_graphs.specs.declared.chains.Link.TheVariants.{End, Next, Stop}
use Rattle.asn1_names.specs.CodeMeanings.{Means as IsCode}
use Rattle.asn1_names.specs.ModuleTerms.{ModuleTerm}
use Rattle.asn1_names.specs.NodeCount.{IsNoType}
use Rattle.asn1_names.specs.declared.name_tables.Meaning.{Meaning as CodeMeaning}
use Rattle.gdmo_names.specs.FoundViews.{found_views}
use Rattle.gdmo_names.specs.LabelMeaning.{Leads}
use Rattle.gdmo_names.specs.Mentions.Role.{BaseAttribute}
use Rattle.gdmo_names.specs.PartTerms.{Placed, PartTerms}
use Rattle.gdmo_names.specs.TypeMeaning.{qualified_meaning}
use Rattle.gdmo_names.specs.declared.found.Found.{Found}
use Rattle.gdmo_types.specs.AttributeTypes.{IsOfMeaning, TellsMissing}
use Rattle.gdmo_types.specs.declared.attribute_types.AttributeType.{AttributeType}
use Rattle.gdmo_types.specs.declared.attribute_types.AttributeType.TheVariants.{Of, Endless, Missing}

-- the type that a name means, where it means one
abbrev pub TellsNamedType : List ModuleTerm → QualifiedName → Option CodeMeaning → Type 0
TellsNamedType ms name None = IsNoType (qualified_meaning ms name)
TellsNamedType ms name (Some meaning) =
    (¬ IsNoType (qualified_meaning ms name)) × IsCode ms meaning (qualified_meaning ms name)

-- a template derives from this one alone
pub record LeadsOn (parts : PartTerms) (xs : List Found) (x : Placed) (next : ℕ) : Type 0 where
  pub base : Placed
  pub at : slice_get (found_views xs) next ≡ Some base
  pub leads : Leads parts x BaseAttribute base
  pub alone : (to : Placed) → Leads parts x BaseAttribute to → to ≡ base

-- where a template leads on
abbrev pub LinksTemplate : PartTerms → List Found → Placed → Link → Type 0
LinksTemplate parts xs x End = (base : Placed) → ¬ Leads parts x BaseAttribute base
LinksTemplate parts xs x (Next next) = LeadsOn parts xs x next
LinksTemplate parts xs x Stop = ⊥

abbrev pub IsTypeLink : PartTerms → List Found → ℕ → Link → Type 0
IsTypeLink parts xs number link =
    (x : Placed) → slice_get (found_views xs) number ≡ Some x → LinksTemplate parts xs x link

pub record AreTypeLinks (parts : PartTerms) (xs : List Found) (links : List Link) : Type 0 where
  pub size : length links ≡ length xs
  pub each : (number : ℕ) (link : Link) → slice_get links number ≡ Some link → IsTypeLink parts xs number link

-- the type of a template that derives from none
abbrev pub TellsEnd : PartTerms → Placed → AttributeType → Type 0
TellsEnd parts attribute (Of meaning) = IsOfMeaning parts attribute meaning
TellsEnd parts attribute Endless = ⊥
TellsEnd parts attribute Missing = TellsMissing parts attribute

abbrev pub TellsStated : PartTerms → Placed → AttributeType → Type 0
TellsStated parts x type = ((base : Placed) → ¬ Leads parts x BaseAttribute base) → TellsEnd parts x type

abbrev pub IsEndType : PartTerms → List Found → ℕ → AttributeType → Type 0
IsEndType parts xs number type = (x : Placed) → slice_get (found_views xs) number ≡ Some x → TellsStated parts x type

-- the same of the end of a chain; where it has none, the attribute derives from itself
abbrev pub TellsChain : PartTerms → List Found → Option ℕ → AttributeType → Type 0
TellsChain parts xs None type = type ≡ Endless
TellsChain parts xs (Some end) type = IsEndType parts xs end type
