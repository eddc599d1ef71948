-- The rules so far.
use Rattle.std.proofs.Common.{List}
use Rattle.asn1_names.specs.ModuleTerms.{ModuleTerm}
use Rattle.linked_types.specs.KnownParts.{AreClosingParts}
use Rattle.section_values.specs.BadSections.{BadOfRule}
use Rattle.section_values.specs.SectionRecords.{IsRule}
use Rattle.section_values.specs.ToldSections.{IsGoodRule}
use Rattle.section_values.proofs.ReadingLaws.{ReadBefore}
use Rattle.section_values.proofs.rules.rule_records.Given as goal

abbrev pub invariant-loop-rule : goal.invariant-loop-rule
invariant-loop-rule l = (ms : List ModuleTerm) → AreClosingParts ms l.parts →
    ReadBefore (BadOfRule ms l.parts.linked.now) (IsGoodRule ms l.parts.linked.now) (IsRule ms l.parts.linked.now)
    l.parts.linked.now.rules.items l.rule-index l.items.items l.initial.bad.first l.bad.first
