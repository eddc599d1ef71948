-- Of none of the attributes so far nothing is left.
use Rattle.std.proofs.Common.{List, map}
use Rattle.std.specs.Map.Iter.{deref_pair}
use Rattle.asn1_names.specs.ModuleTerms.{ModuleTerm}
use Rattle.linked_types.specs.KnownParts.{AreClosingParts}
use Rattle.property_faults.specs.TableFaults.{NothingLeft}
use Rattle.property_faults.proofs.EntryLaws.{NoneSuch}
use Rattle.property_faults.proofs.property_faults.is_some_empty.Given as goal

abbrev pub invariant-loop-attribute : goal.invariant-loop-attribute
invariant-loop-attribute l = (ms : List ModuleTerm) → AreClosingParts ms l.parts →
    NoneSuch (λ q joined. NothingLeft ms l.parts.linked.now l.parts.table.now q joined.permitted)
    (map deref_pair l.yielded)
