-- FaultSets: sets of faults, by kind, document and token, and that of what was noted before and the faults of a set the
-- first is kept (docs/PROFILE.md, section 18).
use Rattle.std.specs.Prelude.{◌≡◌, ◌⊎◌, ℕ, List, [], ◌∷◌, Option, Some}
use Rattle.filled_syntaxes.specs.declared.bad_texts.TextPlace.{TextPlace}
use Rattle.class_faults.specs.declared.first_fault.ClassFault.{ClassFault as NotedFault}
use Rattle.class_faults.specs.FirstClassFault.{ClassFault, IsNoLater}
use Rattle.class_faults.specs.FirstClassFault.ClassFault.{ValueBad}
use Rattle.class_faults.specs.NotedFaults.{kind_of as noted_kind}

abbrev pub FaultSet : Type 1
FaultSet = ClassFault → ℕ → ℕ → Type 0

-- one fault: its kind, its document and its token
abbrev pub ThisFault : ClassFault → ℕ → ℕ → FaultSet
ThisFault its_kind its_document at kind document token =
    (its_kind ≡ kind) × (its_document ≡ document) × (at ≡ token)

-- a fault of one kind at one token of a document, where something is so
abbrev pub OneFault : Type 0 → ClassFault → ℕ → ℕ → FaultSet
OneFault Holds its_kind its_document at kind document token =
    Holds × (its_kind ≡ kind) × (its_document ≡ document) × (at ≡ token)

-- a bad value at the first text that denotes none, where there is one
abbrev pub FirstText : Option TextPlace → FaultSet
FirstText first kind document token =
    (place : TextPlace) × (first ≡ Some place) × ThisFault ValueBad place.document place.token kind document token

-- those of two sets, and those of each element of a list
abbrev pub Either : FaultSet → FaultSet → FaultSet
Either One Other kind document token = One kind document token ⊎ Other kind document token

abbrev pub AnyOf : {X : Type 0} → (X → FaultSet) → List X → FaultSet
AnyOf Faults [] kind document token = ⊥
AnyOf Faults (x ∷ xs) kind document token = Faults x kind document token ⊎ AnyOf Faults xs kind document token

-- this fault is kept, or one before it
abbrev pub KeepsOne : Option NotedFault → ClassFault → ℕ → ℕ → Type 0
KeepsOne after kind document token =
    (x : NotedFault) × (after ≡ Some x) × IsNoLater (noted_kind x.kind) x.document x.token kind document token

-- of what was noted before and the faults of a set the first is kept
pub record Notes (Faults : FaultSet) (before after : Option NotedFault) : Type 0 where
  pub there : (x : NotedFault) → after ≡ Some x → (before ≡ Some x) ⊎ Faults (noted_kind x.kind) x.document x.token
  pub kept : (x : NotedFault) → before ≡ Some x → KeepsOne after (noted_kind x.kind) x.document x.token
  pub least : (kind : ClassFault) (document token : ℕ) → Faults kind document token →
      KeepsOne after kind document token
