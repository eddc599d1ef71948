-- FirstLabelFault: which of the faults of references is told: the least by document, then by token, then in the order
-- unknown label, wrong kind, double label, double identifier (docs/PROFILE.md, section 12).
use Rattle.std.specs.Prelude.{◌≡◌, ◌<◌, ◌≤◌, ℕ}
use Rattle.gdmo_names.specs.declared.refusal.LabelRefusal.{LabelRefusal}
use Rattle.gdmo_names.specs.declared.refusal.LabelRefusal.TheVariants.{UnknownLabel, WrongKind, DoubleLabel}
use Rattle.gdmo_names.specs.declared.refusal.LabelRefusal.TheVariants.{DoubleIdentifier, Memory}
use Rattle.gdmo_names.specs.DoubleNames.{DoubleLabelAt, DoubleIdentifierAt}
use Rattle.gdmo_names.specs.PartTerms.{PartTerms}
use Rattle.gdmo_names.specs.UnknownLabels.{UnknownLabelAt}
use Rattle.gdmo_names.specs.WrongKinds.{WrongKindAt}

-- which fault
pub data LabelFault : Type 0 where
  LabelUnknown : LabelFault
  KindWrong : LabelFault
  LabelDouble : LabelFault
  IdentifierDouble : LabelFault

-- the sentence of a fault, of a token of a document
abbrev pub HasFault : PartTerms → LabelFault → ℕ → ℕ → Type 0
HasFault parts LabelUnknown document at = UnknownLabelAt parts document at
HasFault parts KindWrong document at = WrongKindAt parts document at
HasFault parts LabelDouble document at = DoubleLabelAt parts document at
HasFault parts IdentifierDouble document at = DoubleIdentifierAt parts document at

-- their order at one token
abbrev pub fault_rank : LabelFault → ℕ
fault_rank LabelUnknown = 0
fault_rank KindWrong = 1
fault_rank LabelDouble = 2
fault_rank IdentifierDouble = 3

-- one fault stands no later than another
pub data IsNoLater (kind : LabelFault) (document at : ℕ) (other : LabelFault) (its_document its_at : ℕ) : Type 0 where
  earlier_document : document < its_document → IsNoLater kind document at other its_document its_at
  earlier_token : document ≡ its_document → at < its_at → IsNoLater kind document at other its_document its_at
  at_one_token : document ≡ its_document → at ≡ its_at → fault_rank kind ≤ fault_rank other →
      IsNoLater kind document at other its_document its_at

-- the first fault of a set of documents
pub record IsFirstFault (parts : PartTerms) (kind : LabelFault) (document at : ℕ) : Type 0 where
  pub there : HasFault parts kind document at
  pub least : (other : LabelFault) (its_document its_at : ℕ) → HasFault parts other its_document its_at →
      IsNoLater kind document at other its_document its_at

-- nothing is wrong with the references
abbrev pub AreFaultless : PartTerms → Type 0
AreFaultless parts = (kind : LabelFault) (document at : ℕ) → ¬ HasFault parts kind document at

-- a refusal tells the first fault; for want of memory it tells nothing
abbrev pub TellsFirstFault : PartTerms → LabelRefusal → Type 0
TellsFirstFault parts (UnknownLabel document token) = IsFirstFault parts LabelUnknown document token
TellsFirstFault parts (WrongKind document token) = IsFirstFault parts KindWrong document token
TellsFirstFault parts (DoubleLabel document token) = IsFirstFault parts LabelDouble document token
TellsFirstFault parts (DoubleIdentifier document token) = IsFirstFault parts IdentifierDouble document token
TellsFirstFault parts Memory = Unit {0}
