-- FirstClassFault: which of the faults of classes is told: the least by document, then by token, then in the order
-- cyclic class, unequal default, empty permitted values, no set, bad value (docs/PROFILE.md, section 18).
use Rattle.std.specs.Prelude.{◌≡◌, ◌<◌, ◌≤◌, ℕ, List}
use Rattle.asn1_names.specs.ModuleTerms.{ModuleTerm}
use Rattle.linked_parts.specs.declared.linked.Linked.{Linked}
use Rattle.class_faults.specs.BadValues.{BadValueAt}
use Rattle.class_faults.specs.CyclicClasses.{CyclicClassAt}
use Rattle.class_faults.specs.PackageFaults.{EmptyPermittedAt, NotSetValuedAt, UnequalDefaultAt}

-- which fault
pub data ClassFault : Type 0 where
  ClassCyclic : ClassFault
  DefaultUnequal : ClassFault
  PermittedEmpty : ClassFault
  SetMissing : ClassFault
  ValueBad : ClassFault

-- the sentence of a fault, of a token of a document
abbrev pub HasFault : List ModuleTerm → Linked → ClassFault → ℕ → ℕ → Type 0
HasFault ms linked ClassCyclic document at = CyclicClassAt linked document at
HasFault ms linked DefaultUnequal document at = UnequalDefaultAt ms linked document at
HasFault ms linked PermittedEmpty document at = EmptyPermittedAt ms linked document at
HasFault ms linked SetMissing document at = NotSetValuedAt ms linked document at
HasFault ms linked ValueBad document at = BadValueAt ms linked document at

-- their order at one token
abbrev pub fault_rank : ClassFault → ℕ
fault_rank ClassCyclic = 0
fault_rank DefaultUnequal = 1
fault_rank PermittedEmpty = 2
fault_rank SetMissing = 3
fault_rank ValueBad = 4

-- one fault stands no later than another
pub data IsNoLater (kind : ClassFault) (document at : ℕ) (other : ClassFault) (its_document its_at : ℕ) : Type 0 where
  earlier_document : document < its_document → IsNoLater kind document at other its_document its_at
  earlier_token : document ≡ its_document → at < its_at → IsNoLater kind document at other its_document its_at
  at_one_token : document ≡ its_document → at ≡ its_at → fault_rank kind ≤ fault_rank other →
      IsNoLater kind document at other its_document its_at

-- the first fault of linked parts
pub record IsFirstFault (ms : List ModuleTerm) (linked : Linked) (kind : ClassFault) (document at : ℕ) : Type 0 where
  pub there : HasFault ms linked kind document at
  pub least : (other : ClassFault) (its_document its_at : ℕ) → HasFault ms linked other its_document its_at →
      IsNoLater kind document at other its_document its_at

-- nothing is wrong with the classes
abbrev pub AreFaultless : List ModuleTerm → Linked → Type 0
AreFaultless ms linked = (kind : ClassFault) (document at : ℕ) → ¬ HasFault ms linked kind document at
