-- The links of the templates so far.
use Rattle.gdmo_names.specs.PartTerms.{PartTerms}
use Rattle.gdmo_names.specs.TargetTables.{AreFound, AreTargets}
use Rattle.asn1_numbers.proofs.EachLaws.{EachIs}
use Rattle.gdmo_types.specs.TypeChains.{IsTypeLink}
use Rattle.gdmo_types.proofs.attribute_types.type_links.Given as goal

abbrev pub invariant-loop-number : goal.invariant-loop-number
invariant-loop-number l = (parts : PartTerms) → AreFound parts l.templates → AreTargets parts l.templates l.targets →
    EachIs (IsTypeLink parts l.templates) l.number l.links.items
