-- The pairs so far.
use Rattle.std.proofs.Common.{List}
use Rattle.asn1_names.specs.ModuleTerms.{ModuleTerm}
use Rattle.linked_types.specs.KnownParts.{AreClosingParts}
use Rattle.section_values.specs.BadSections.{BadOfPair}
use Rattle.section_values.specs.SectionRecords.{IsPairValue}
use Rattle.section_values.specs.ToldSections.{IsGoodPair}
use Rattle.section_values.proofs.ReadingLaws.{ReadBefore}
use Rattle.section_values.proofs.instances.pair_values.Given as goal

abbrev pub invariant-loop-pair : goal.invariant-loop-pair
invariant-loop-pair l = (ms : List ModuleTerm) → AreClosingParts ms l.parts →
    ReadBefore (BadOfPair ms l.parts.linked.now l.document) (IsGoodPair ms l.parts.linked.now)
    (IsPairValue ms l.parts.linked.now) l.pairs l.pair-index l.values.items l.initial.bad.first l.bad.first
