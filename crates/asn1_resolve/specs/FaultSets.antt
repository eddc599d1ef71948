-- FaultSets: sets of faults, of tokens of one document and of all documents, and which fault of a set comes first: the
-- least by document, then by token, then in the order of the kinds (docs/PROFILE.md, section 11).
use Rattle.std.specs.Prelude.{◌≡◌, ◌⊎◌, ℕ, List, [], ◌∷◌, Option, None, Some}
use Rattle.asn1_names.specs.declared.first_fault.FaultKind.{FaultKind as NotedKind}
use Rattle.asn1_names.specs.declared.first_fault.FaultKind.TheVariants as noted
use Rattle.asn1_names.specs.declared.first_fault.ModuleFault.{ModuleFault}
use Rattle.asn1_names.specs.declared.numbers.NumberFound.{NumberFound}
use Rattle.asn1_names.specs.declared.numbers.NumberFound.TheVariants as answer
use Rattle.asn1_names.specs.FirstModuleFault.{FaultKind, IsNoLater}
use Rattle.asn1_names.specs.NotedFaults.{IsNotLater, kind_of}

-- a fault of one kind at one token, where something is so
abbrev pub OneFault : Type 0 → ℕ → FaultKind → ℕ → FaultKind → Type 0
OneFault Holds at its_kind token kind = Holds × (at ≡ token) × (its_kind ≡ kind)

-- no fault
abbrev pub NoFaults : ℕ → FaultKind → Type 0
NoFaults token kind = ⊥

-- those of two sets
abbrev pub Either : (ℕ → FaultKind → Type 0) → (ℕ → FaultKind → Type 0) → ℕ → FaultKind → Type 0
Either One Other token kind = One token kind ⊎ Other token kind

-- those of each element of a list
abbrev pub AnyOf : {X : Type 0} → (X → ℕ → FaultKind → Type 0) → List X → ℕ → FaultKind → Type 0
AnyOf Faults [] token kind = ⊥
AnyOf Faults (x ∷ xs) token kind = Faults x token kind ⊎ AnyOf Faults xs token kind

-- those of tokens of one document
abbrev pub In : ℕ → (ℕ → FaultKind → Type 0) → FaultKind → ℕ → ℕ → Type 0
In document Faults kind its_document token = (document ≡ its_document) × Faults token kind

-- the first fault of a set, or none where the set has none
pub record IsFirstOf (Faults : FaultKind → ℕ → ℕ → Type 0) (first : Option ModuleFault) : Type 0 where
  pub there : (x : ModuleFault) → first ≡ Some x → Faults (kind_of x.kind) x.document x.token
  pub least : (kind : FaultKind) (document token : ℕ) → Faults kind document token →
      (x : ModuleFault) × (first ≡ Some x) × IsNoLater (kind_of x.kind) x.document x.token kind document token

-- the earlier one of two faults, where there are any
pub record IsEarlier (one other first : Option ModuleFault) : Type 0 where
  pub either : (x : ModuleFault) → first ≡ Some x → (one ≡ Some x) ⊎ (other ≡ Some x)
  pub before_one : (x : ModuleFault) → one ≡ Some x → (y : ModuleFault) × (first ≡ Some y) × IsNotLater y x
  pub before_other : (x : ModuleFault) → other ≡ Some x → (y : ModuleFault) × (first ≡ Some y) × IsNotLater y x

-- a fault, by its document, its token and its kind
abbrev pub noted_at : ℕ → ℕ → NotedKind → ModuleFault
noted_at document at kind = record { document = document; token = at; kind = kind }

-- the fault of what was found of a number, where it is none
abbrev pub found_fault : ℕ → ℕ → NotedKind → NumberFound → Option ModuleFault
found_fault document at wide (answer.Number n) = None
found_fault document at wide answer.NotNumber = Some (noted_at document at wide)
found_fault document at wide answer.Unknown = Some (noted_at document at noted.UnknownType)
