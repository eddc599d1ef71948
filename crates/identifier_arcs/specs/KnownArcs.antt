-- KnownArcs: what is told of the arcs of identifiers and of the values that modules assign (X.660, annex A; X.680,
-- section 32; docs/PROFILE.md, section 12).
use Rattle.std.specs.Prelude.{◌≡◌, ℕ, List, Option, None, Some, map, slice_get}
use Rattle.asn1_names.specs.AssignmentNumbers.{Numbered, numbered_at}
use Rattle.asn1_names.specs.FirstNames.{found}
use Rattle.key_numbers.specs.NumberedLists.{IsList, Row}
use Rattle.gdmo_first_names.specs.DefinedNames.{AreDefined}
use Rattle.gdmo_first_names.specs.ReadModules.{HasWholeArcs}
use Rattle.gdmo_names.specs.FirstNames.{HasArcs, arc_value, root_arc}
use Rattle.gdmo_names.specs.PartTerms.{PartTerms, arcs_at, module_terms_of}
use Rattle.gdmo_names.specs.TemplateTerms.{FirstTerm, IdentifierTerm}
use Rattle.gdmo_names.specs.TemplateTerms.FirstTerm.{ArcNumber, ArcName}
use Rattle.identifier_arcs.specs.declared.chains.Begin.{Begin}
use Rattle.identifier_arcs.specs.declared.chains.Begin.TheVariants.{Number, Element, Nowhere}
use Rattle.identifier_arcs.specs.declared.chains.Chain.{Chain}
use Rattle.identifier_arcs.specs.declared.known_arcs.KnownArcs.{KnownArcs}
use Rattle.identifier_arcs.specs.Chains.{AreTold}

-- what is told of an identifier: the number of the list of its arcs, or that it has none
abbrev pub TellsArcs : PartTerms → Row → IdentifierTerm → Option ℕ → Type 0
TellsArcs parts row x None = (arcs : List ℕ) → ¬ HasArcs parts x arcs
TellsArcs parts row x (Some n) = (arcs : List ℕ) × IsList row n arcs × HasArcs parts x arcs

-- the same of what an assignment says as an identifier, where it says one
abbrev pub TellsSaid : PartTerms → Row → Option (Option IdentifierTerm) → Option ℕ → Type 0
TellsSaid parts row None answer = Unit {0}
TellsSaid parts row (Some None) answer = answer ≡ None
TellsSaid parts row (Some (Some x)) answer = TellsArcs parts row x answer

-- with what an identifier begins: with a number, or with the arcs of the value of the assignment that defines the name
abbrev pub name_begin : Option ℕ → Option ℕ → Begin
name_begin (Some arc) own = Number arc
name_begin None (Some number) = Element number
name_begin None None = Nowhere

abbrev pub first_begin : (List ℕ → Option ℕ) → FirstTerm → Begin
first_begin defined (ArcNumber token) = Number (arc_value token)
first_begin defined (ArcName name) = name_begin (root_arc name.text) (defined name.text)

-- the numbers of a chain are the arcs of an identifier, as far as it states them
pub record IsChain (defined : List ℕ → Option ℕ) (x : IdentifierTerm) (chain : Chain) : Type 0 where
  pub begins : chain.begin ≡ first_begin defined x.first
  pub behind : chain.others.items ≡ map arc_value x.others

abbrev pub TellsChain : (List ℕ → Option ℕ) → Option IdentifierTerm → Chain → Type 0
TellsChain defined None chain = chain.begin ≡ Nowhere
TellsChain defined (Some x) chain = HasWholeArcs x → IsChain defined x chain

-- those of the value of the assignment with a number
abbrev pub IsValueChain : PartTerms → (List ℕ → Option ℕ) → ℕ → Chain → Type 0
IsValueChain parts defined number chain = (x : Numbered) → numbered_at (module_terms_of parts) number ≡ Some x →
    (said : Option IdentifierTerm) × (arcs_at parts x.in_module x.place ≡ Some said) × TellsChain defined said chain

-- those of all values
abbrev pub AreChains : PartTerms → (List ℕ → Option ℕ) → List Chain → Type 0
AreChains parts defined chains = (k : ℕ) (x : Numbered) → numbered_at (module_terms_of parts) k ≡ Some x →
    (chain : Chain) × (slice_get chains k ≡ Some chain) × IsValueChain parts defined k chain

-- the arcs of the values of these modules are known
pub record AreKnown (parts : PartTerms) (known : KnownArcs) : Type 0 where
  pub are_defined : AreDefined parts known.defined.now
  pub chains : List Chain
  pub are_chains : AreChains parts (found known.defined.now) chains
  pub are_told : AreTold known.numbers.lists chains known.numbers.told.items
