-- One more section, and all of them.
use Rattle.std.proofs.Common.{arith}
use Rattle.gdmo_names.specs.PartViews.{section_instances, section_rules}
use Rattle.gdmo_targets.proofs.SectionLaws.{sections_end, sections_none, sections_step}
use Rattle.gdmo_targets.proofs.section_references.Labelled.section_targets.Goals as goal

pub loop-section-init : goal.loop-section-init
loop-section-init c = λ parts is. (
  record { rules = c.new.result; instances = c.new-2.result },
  c.new.ensures.items,
  c.new-2.ensures.items,
  sections_none parts c.args.self.now.templates.now
      (record { rules = c.new.result; instances = c.new-2.result }) c.args.faults.now.first,
)

pub loop-section-preserved : goal.loop-section-preserved
loop-section-preserved c = λ parts is.
    let before = c.loop-section.invariant parts is in (
      before.0,
      before.1,
      before.2,
      sections_step parts c.args.self.now.templates.now section_rules section_instances c.args.sections.now
          c.loop-section.section-index c.section-item.result before.0 c.loop-section.targets c.add_section.new.targets
          c.loop-section-test.true c.section-item.is before.3 (c.in_ok-add_section.ensures parts is),
    )

pub returns : goal.returns
returns c = λ parts is rules_are instances_are.
    let before = c.loop-section.invariant parts is in
    sections_end parts c.args.self.now.templates.now section_rules section_instances c.args.sections.now
    c.loop-section.section-index before.0 c.loop-section.targets (omega (arith, c.loop-section-test.false)) before.1
    before.2 rules_are instances_are before.3
