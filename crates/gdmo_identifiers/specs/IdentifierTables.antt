-- IdentifierTables: what is told of the identifiers of templates: the list of their arcs, and the object identifier
-- that each is (X.660, annex A; X.680, section 32; docs/PROFILE.md, section 12).
use Rattle.std.specs.Prelude.{◌≡◌, ℕ, List, true, false, Option, None, Some}
use Rattle.std.specs.declared.alloc.Global.{Global}
use Rattle.std.specs.declared.vec.Vec.{Vec}
use Rattle.std.specs.List.{list_all}
use Rattle.term_values.specs.Oid.{is_arc}
use Rattle.key_numbers.specs.NumberedLists.{IsList, Row}
use Rattle.gdmo_first_names.specs.ReadModules.{HasWholeArcs}
use Rattle.gdmo_names.specs.DocumentTemplates.{templates}
use Rattle.gdmo_names.specs.FirstNames.{IsIdentifier, are_identifier}
use Rattle.gdmo_names.specs.InStep.{AreEach}
use Rattle.gdmo_names.specs.PartTerms.{Placed, PartTerms, identifier_of}
use Rattle.gdmo_names.specs.TemplateTerms.{IdentifierTerm}
use Rattle.identifier_arcs.specs.KnownArcs.{TellsArcs}
use Rattle.gdmo_identifiers.specs.declared.registrations.Registration.{Registration}

-- numbers below 2^32, or that one isn't
abbrev pub TellsNarrow : List ℕ → Option (Vec ℕ Global) → Type 0
TellsNarrow numbers None = list_all is_arc numbers ≡ false
TellsNarrow numbers (Some arcs) = (arcs.items ≡ numbers) × (list_all is_arc numbers ≡ true)

-- arcs that are an object identifier, or that they are none
abbrev pub TellsOid : List ℕ → Option (List ℕ) → Type 0
TellsOid arcs None = are_identifier arcs ≡ false
TellsOid arcs (Some own) = (own ≡ arcs) × (are_identifier arcs ≡ true)

-- the object identifier that an identifier is, or that it is none
abbrev pub TellsIdentifier : PartTerms → IdentifierTerm → Option (List ℕ) → Type 0
TellsIdentifier parts x None = (arcs : List ℕ) → ¬ IsIdentifier parts x arcs
TellsIdentifier parts x (Some arcs) = IsIdentifier parts x arcs

-- the same of a template, where it has an identifier
abbrev pub MaybeIdentifier : PartTerms → Option IdentifierTerm → Option (List ℕ) → Type 0
MaybeIdentifier parts None own = own ≡ None
MaybeIdentifier parts (Some x) own = TellsIdentifier parts x own

abbrev pub TellsOids : PartTerms → Placed → Option (List ℕ) → Type 0
TellsOids parts by own = MaybeIdentifier parts (identifier_of by.template) own

-- the number of the list of the arcs of a template's identifier
abbrev pub MaybeArcs : PartTerms → Row → Option IdentifierTerm → Option ℕ → Type 0
MaybeArcs parts row None answer = answer ≡ None
MaybeArcs parts row (Some x) answer = TellsArcs parts row x answer

abbrev pub TellsRegistered : PartTerms → Row → Placed → Option ℕ → Type 0
TellsRegistered parts row by answer = MaybeArcs parts row (identifier_of by.template) answer

abbrev pub HasWholeMaybe : Option IdentifierTerm → Type 0
HasWholeMaybe None = Unit {0}
HasWholeMaybe (Some x) = HasWholeArcs x

-- where an identifier is registered, of which the list of the arcs has this number
abbrev pub IsPlaced : Option IdentifierTerm → ℕ → ℕ → Option Registration → Type 0
IsPlaced None document list answer = answer ≡ None
IsPlaced (Some x) document list answer = (r : Registration) × (answer ≡ Some r) × (r.list ≡ list)
    × (r.document ≡ document) × (r.brace.now ≡ x.brace)

-- where a template is registered, whose identifier is an object identifier
pub record IsRegistered (parts : PartTerms) (row : Row) (by : Placed) (r : Registration) : Type 0 where
  pub x : IdentifierTerm
  pub is : identifier_of by.template ≡ Some x
  pub arcs : List ℕ
  pub list : IsList row r.list arcs
  pub good : IsIdentifier parts x arcs
  pub document : r.document ≡ by.document
  pub brace : r.brace.now ≡ x.brace

abbrev pub IsRegistration : PartTerms → Row → Placed → Option Registration → Type 0
IsRegistration parts row by None =
    (x : IdentifierTerm) (arcs : List ℕ) → identifier_of by.template ≡ Some x → ¬ IsIdentifier parts x arcs
IsRegistration parts row by (Some r) = IsRegistered parts row by r

-- what is told of all templates, in their order: the lists of arcs, the object identifiers, and where they are
-- registered
abbrev pub TellAllArcs : PartTerms → Row → List (Option ℕ) → Type 0
TellAllArcs parts row lists = AreEach (TellsRegistered parts row) (templates parts) lists

abbrev pub TellAllOids : PartTerms → List (Option (List ℕ)) → Type 0
TellAllOids parts own = AreEach (TellsOids parts) (templates parts) own

abbrev pub TellAllPlaces : PartTerms → Row → List (Option Registration) → Type 0
TellAllPlaces parts row registered = AreEach (IsRegistration parts row) (templates parts) registered
