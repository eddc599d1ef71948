-- The steps so far.
use Rattle.std.proofs.Common.{List}
use Rattle.asn1_names.specs.ModuleTerms.{ModuleTerm}
use Rattle.linked_types.specs.KnownParts.{AreClosingParts}
use Rattle.section_values.specs.BadSections.{BadOfStep}
use Rattle.section_values.specs.SectionRecords.{IsStep}
use Rattle.section_values.specs.ToldSections.{IsGoodStep}
use Rattle.section_values.proofs.ReadingLaws.{ReadBefore}
use Rattle.section_values.proofs.rules.steps_of.Given as goal

abbrev pub invariant-loop-step : goal.invariant-loop-step
invariant-loop-step l = (ms : List ModuleTerm) → AreClosingParts ms l.parts →
    ReadBefore (BadOfStep ms l.parts.linked.now l.rule) (IsGoodStep ms l.parts.linked.now l.rule)
    (IsStep ms l.parts.linked.now l.rule) l.rule.steps.items l.step-index l.items.items l.initial.bad.first l.bad.first
