-- FirstModuleFault: which of the faults of modules is told: the least by document, then by token, then in the order
-- unknown type, unknown module, cyclic type, unsupported, ambiguous tags (docs/PROFILE.md, section 11).
use Rattle.std.specs.Prelude.{◌≡◌, ◌<◌, ◌≤◌, ℕ, List}
use Rattle.asn1_names.specs.declared.refusal.ModuleRefusal.{ModuleRefusal}
use Rattle.asn1_names.specs.declared.refusal.ModuleRefusal.TheVariants.{UnknownType, UnknownModule, CyclicType}
use Rattle.asn1_names.specs.declared.refusal.ModuleRefusal.TheVariants.{Unsupported, AmbiguousTags, Memory}
use Rattle.asn1_names.specs.declared.refusal.UnsupportedKind.{UnsupportedKind}
use Rattle.asn1_names.specs.declared.refusal.UnsupportedKind.TheVariants.{TypeWord, TooManyNodes, TagNumber}
use Rattle.asn1_names.specs.declared.refusal.UnsupportedKind.TheVariants.{WideNumber, MisplacedConstraint}
use Rattle.asn1_names.specs.ModuleTerms.{ModuleTerm}
use Rattle.asn1_names.specs.ModuleFaults.{UnknownTypeAt, UnknownModuleAt, CyclicTypeAt, UnsupportedAt}
use Rattle.asn1_names.specs.ModuleFaults.{AmbiguousTagsAt}

-- which fault: what is unsupported has its kind
pub data FaultKind : Type 0 where
  TypeUnknown : FaultKind
  ModuleUnknown : FaultKind
  TypeCyclic : FaultKind
  NotSupported : UnsupportedKind → FaultKind
  TagsAmbiguous : FaultKind

-- the sentence of a fault, of a token of a document
abbrev pub HasFault : List ModuleTerm → FaultKind → ℕ → ℕ → Type 0
HasFault ms TypeUnknown document token = UnknownTypeAt ms document token
HasFault ms ModuleUnknown document token = UnknownModuleAt ms document token
HasFault ms TypeCyclic document token = CyclicTypeAt ms document token
HasFault ms (NotSupported kind) document token = UnsupportedAt ms document token kind
HasFault ms TagsAmbiguous document token = AmbiguousTagsAt ms document token

-- their order at one token; of what is unsupported the order is that of its kinds
abbrev pub unsupported_rank : UnsupportedKind → ℕ
unsupported_rank TypeWord = 3
unsupported_rank TooManyNodes = 4
unsupported_rank TagNumber = 5
unsupported_rank WideNumber = 6
unsupported_rank MisplacedConstraint = 7

abbrev pub fault_rank : FaultKind → ℕ
fault_rank TypeUnknown = 0
fault_rank ModuleUnknown = 1
fault_rank TypeCyclic = 2
fault_rank (NotSupported kind) = unsupported_rank kind
fault_rank TagsAmbiguous = 8

-- one fault stands no later than another
pub data IsNoLater (kind : FaultKind) (document token : ℕ) (other : FaultKind)
    (its_document its_token : ℕ) : Type 0 where
  earlier_document : document < its_document → IsNoLater kind document token other its_document its_token
  earlier_token : document ≡ its_document → token < its_token →
      IsNoLater kind document token other its_document its_token
  at_one_token : document ≡ its_document → token ≡ its_token → fault_rank kind ≤ fault_rank other →
      IsNoLater kind document token other its_document its_token

-- the first fault of modules
pub record IsFirstFault (ms : List ModuleTerm) (kind : FaultKind) (document token : ℕ) : Type 0 where
  pub there : HasFault ms kind document token
  pub least : (other : FaultKind) (its_document its_token : ℕ) → HasFault ms other its_document its_token →
      IsNoLater kind document token other its_document its_token

-- nothing is wrong in modules
abbrev pub AreFaultless : List ModuleTerm → Type 0
AreFaultless ms = (kind : FaultKind) (document token : ℕ) → ¬ HasFault ms kind document token

-- a refusal tells the first fault; for want of memory it tells nothing
abbrev pub TellsFirstFault : List ModuleTerm → ModuleRefusal → Type 0
TellsFirstFault ms (UnknownType document token) = IsFirstFault ms TypeUnknown document token
TellsFirstFault ms (UnknownModule document token) = IsFirstFault ms ModuleUnknown document token
TellsFirstFault ms (CyclicType document token) = IsFirstFault ms TypeCyclic document token
TellsFirstFault ms (Unsupported document token kind) = IsFirstFault ms (NotSupported kind) document token
TellsFirstFault ms (AmbiguousTags document token) = IsFirstFault ms TagsAmbiguous document token
TellsFirstFault ms Memory = Unit {0}
