-- PropertyFaults: what is wrong with the properties of classes, joined over what they state and inherit: defaults, or
-- initial values, that are unequal, and attributes of which no value is permitted (X.722, section 8.4; docs/PROFILE.md,
-- section 18).
use Rattle.std.specs.Prelude.{List}
use Rattle.asn1_names.specs.ModuleTerms.{ModuleTerm}
use Rattle.linked_parts.specs.declared.linked.Linked.{Linked}
use Rattle.class_faults.specs.FaultSets.{FaultSet}
use Rattle.class_faults.specs.FirstClassFault.ClassFault.{DefaultUnequal, PermittedEmpty}
use Rattle.class_faults.specs.PackageFaults.{EmptyPermittedAt, UnequalDefaultAt}

abbrev pub PropertyFaults : List ModuleTerm → Linked → FaultSet
PropertyFaults ms linked DefaultUnequal document at = UnequalDefaultAt ms linked document at
PropertyFaults ms linked PermittedEmpty document at = EmptyPermittedAt ms linked document at
PropertyFaults ms linked _ document at = ⊥
