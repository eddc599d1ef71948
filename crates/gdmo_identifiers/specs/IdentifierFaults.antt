-- IdentifierFaults: what is wrong with identifiers, as sets of faults: a first name that means nothing, or no OBJECT
-- IDENTIFIER value, arcs that are no object identifier, and an identifier under which an earlier template is registered
-- (X.660, annex A; X.680, section 32; X.722, section 8.2; docs/PROFILE.md, section 12).
use Rattle.std.specs.Prelude.{◌≡◌, ◌≢◌, ◌⊎◌, ℕ, List, Option, None, Some}
use Rattle.token_grammar.specs.declared.token.Token.{Token}
use Rattle.gdmo_names.specs.DocumentTemplates.{templates}
use Rattle.gdmo_names.specs.DoubleNames.{DoubleIdentifierAt}
use Rattle.gdmo_names.specs.FaultSets.{AnyOf, Either, FaultSet, OneFault}
use Rattle.gdmo_names.specs.FirstLabelFault.{LabelFault}
use Rattle.gdmo_names.specs.FirstLabelFault.LabelFault.{IdentifierDouble, KindWrong, LabelUnknown}
use Rattle.gdmo_names.specs.FirstNames.{DefinesName, IsAssigned, IsIdentifier, root_arc}
use Rattle.gdmo_names.specs.PartTerms.{ModulePart, Placed, PartTerms, identifier_of}
use Rattle.gdmo_names.specs.SectionFaults.{NoFault}
use Rattle.gdmo_names.specs.TemplateTerms.{FirstTerm, IdentifierTerm}
use Rattle.gdmo_names.specs.TemplateTerms.FirstTerm.{ArcNumber, ArcName}

-- a name is that of a root, or some module defines it
abbrev pub IsKnownName : PartTerms → List ℕ → Type 0
IsKnownName parts name = (root_arc name ≢ None) ⊎ ((m : ℕ) × (i : ℕ) × DefinesName parts name m i)

abbrev pub IsKnownTerm : PartTerms → FirstTerm → Type 0
IsKnownTerm parts (ArcNumber token) = Unit {0}
IsKnownTerm parts (ArcName name) = IsKnownName parts name.text

-- what is wrong with a name that isn't known
abbrev pub NamedFaults : PartTerms → ℕ → Token → FaultSet
NamedFaults parts document name = Either (OneFault (¬ IsAssigned parts name.text) LabelUnknown document name.at)
    (OneFault (IsAssigned parts name.text) KindWrong document name.at)

-- no module, nor CMIP-1, assigns the name
pub record IsUnknownName (parts : PartTerms) (name : List ℕ) : Type 0 where
  pub no_root : root_arc name ≡ None
  pub unassigned : ¬ IsAssigned parts name

-- the name is assigned, but in no module to an OBJECT IDENTIFIER value
pub record IsOtherName (parts : PartTerms) (name : List ℕ) : Type 0 where
  pub no_root : root_arc name ≡ None
  pub assigned : IsAssigned parts name
  pub undefined : (m i : ℕ) → ¬ DefinesName parts name m i

abbrev pub NameFaults : PartTerms → ℕ → Token → FaultSet
NameFaults parts document name = Either (OneFault (IsUnknownName parts name.text) LabelUnknown document name.at)
    (OneFault (IsOtherName parts name.text) KindWrong document name.at)

abbrev pub FirstFaults : PartTerms → ℕ → FirstTerm → FaultSet
FirstFaults parts document (ArcNumber token) = NoFault
FirstFaults parts document (ArcName name) = NameFaults parts document name

-- the identifiers of one module, with those from which it imports, and of all
abbrev pub StatedFaults : PartTerms → ℕ → IdentifierTerm → FaultSet
StatedFaults parts document x = FirstFaults parts document x.first

abbrev pub FaultsOfModule : PartTerms → ModulePart → FaultSet
FaultsOfModule parts part = AnyOf (StatedFaults parts part.text.document) part.identifiers

abbrev pub FaultsOfModules : PartTerms → FaultSet
FaultsOfModules parts = AnyOf (FaultsOfModule parts) parts.modules

-- the arcs of an identifier, whose first arc is known, are no object identifier
pub record HasNoArcs (parts : PartTerms) (x : IdentifierTerm) : Type 0 where
  pub known : IsKnownTerm parts x.first
  pub bad : (arcs : List ℕ) → ¬ IsIdentifier parts x arcs

abbrev pub FaultsOfIdentifier : PartTerms → ℕ → IdentifierTerm → FaultSet
FaultsOfIdentifier parts document x = Either (FirstFaults parts document x.first)
    (OneFault (HasNoArcs parts x) KindWrong document x.brace.at)

-- the identifier under which one template is registered, and those of all
abbrev pub MaybeFaults : PartTerms → ℕ → Option IdentifierTerm → FaultSet
MaybeFaults parts document None = NoFault
MaybeFaults parts document (Some x) = FaultsOfIdentifier parts document x

abbrev pub FaultsOfRegistered : PartTerms → Placed → FaultSet
FaultsOfRegistered parts by = MaybeFaults parts by.document (identifier_of by.template)

abbrev pub FaultsOfRegistrations : PartTerms → FaultSet
FaultsOfRegistrations parts = AnyOf (FaultsOfRegistered parts) (templates parts)

-- identifiers under which an earlier template is registered
pub record DoubleIdentifiers (parts : PartTerms) (kind : LabelFault) (document token : ℕ) : Type 0 where
  pub double : DoubleIdentifierAt parts document token
  pub is_double : IdentifierDouble ≡ kind

-- what is wrong with the identifiers of templates
abbrev pub FaultsOfIdentifiers : PartTerms → FaultSet
FaultsOfIdentifiers parts = Either (FaultsOfRegistrations parts) (DoubleIdentifiers parts)
