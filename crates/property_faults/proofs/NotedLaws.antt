-- NotedLaws: faults that are noted where a test found them.
use Rattle.std.proofs.Common.{◌≡◌, ℕ, Bool, true, false, Option, refl}
use Rattle.std.specs.Prelude.{MatchBool}
use Rattle.std.proofs.lemmas.Bool.{false≢true}
use Rattle.class_faults.specs.FaultSets.{Either, Notes, OneFault}
use Rattle.class_faults.specs.FirstClassFault.{ClassFault}
use Rattle.class_faults.specs.FirstClassFault.ClassFault.{DefaultUnequal, PermittedEmpty}
use Rattle.class_faults.specs.declared.first_fault.ClassFault.{ClassFault as NotedFault}
use Rattle.class_faults.proofs.CyclicLaws.{one_by}
use Rattle.class_faults.proofs.NotingLaws.{both_noted, noted_by}

-- what a test answers is so
found_so : {Holds : Type 0} (found : Bool) → MatchBool found Holds (¬ Holds) → found ≡ true → Holds
found_so true told is = told
found_so false told is = absurd (false≢true is)

so_found : {Holds : Type 0} (found : Bool) → MatchBool found Holds (¬ Holds) → Holds → found ≡ true
so_found true told holds = refl
so_found false told holds = absurd (told holds)

one_told : {Holds : Type 0} (found : Bool) (kind : ClassFault) (document at : ℕ) {before after : Option NotedFault} →
    MatchBool found Holds (¬ Holds) → Notes (OneFault (found ≡ true) kind document at) before after →
    Notes (OneFault Holds kind document at) before after
one_told {Holds} found kind document at told h =
    noted_by (OneFault (found ≡ true) kind document at) (OneFault Holds kind document at)
    (λ k d t fault. one_by (found_so found told) fault) (λ k d t fault. one_by (so_found found told) fault) h

pub class_noted : {Unequal Empty : Type 0} (unequal empty : Bool) (document at : ℕ)
    {before between after : Option NotedFault} → MatchBool unequal Unequal (¬ Unequal) →
    MatchBool empty Empty (¬ Empty) → Notes (OneFault (unequal ≡ true) DefaultUnequal document at) before between →
    Notes (OneFault (empty ≡ true) PermittedEmpty document at) between after →
    Notes (Either (OneFault Unequal DefaultUnequal document at) (OneFault Empty PermittedEmpty document at))
    before after
class_noted {Unequal} {Empty} unequal empty document at one other p q =
    both_noted (OneFault Unequal DefaultUnequal document at) (OneFault Empty PermittedEmpty document at)
    (one_told unequal DefaultUnequal document at one p) (one_told empty PermittedEmpty document at other q)
