-- StatedFaults: what is wrong with what packages state, whatever class has them: ADD or REMOVE on what is no set, and
-- values that don't fit (X.722, section 8.4; docs/PROFILE.md, section 18).
use Rattle.std.specs.Prelude.{List}
use Rattle.asn1_names.specs.ModuleTerms.{ModuleTerm}
use Rattle.linked_parts.specs.declared.linked.Linked.{Linked}
use Rattle.class_faults.specs.BadValues.{BadStatedAt}
use Rattle.class_faults.specs.FaultSets.{FaultSet}
use Rattle.class_faults.specs.FirstClassFault.ClassFault.{SetMissing, ValueBad}
use Rattle.class_faults.specs.PackageFaults.{NotSetValuedAt}

abbrev pub StatedFaults : List ModuleTerm → Linked → FaultSet
StatedFaults ms linked SetMissing document at = NotSetValuedAt ms linked document at
StatedFaults ms linked ValueBad document at = BadStatedAt ms linked document at
StatedFaults ms linked _ document at = ⊥
