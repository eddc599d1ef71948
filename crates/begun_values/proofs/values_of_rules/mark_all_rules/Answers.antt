-- One more section, and all of them.
use Rattle.gdmo_names.specs.PartViews.{section_rules}
use Rattle.gdmo_targets.specs.SectionTables.{IsRuleTargets}
use Rattle.begun_values.specs.SectionValues.{RuleFirsts}
use Rattle.begun_values.proofs.GoingLaws.{goes_all, goes_flat_step}
use Rattle.begun_values.proofs.values_of_rules.mark_all_rules.Goals as goal

pub loop-section-preserved : goal.loop-section-preserved
loop-section-preserved c = λ parts link.
    goes_flat_step (IsRuleTargets parts c.args.linkage.now.templates.now) (RuleFirsts parts) section_rules
    c.args.sections.now c.loop-section.section-index c.section-item.result c.args.targets.now 0 c.loop-section.next
    c.in_ok-next.next c.loop-section-test.true c.section-item.is (c.loop-section.invariant parts link)
    (c.in_ok-next.ensures parts link)

pub returns : goal.returns
returns c = λ parts link each.
    goes_all (IsRuleTargets parts c.args.linkage.now.templates.now) (RuleFirsts parts) section_rules c.args.sections.now
    c.loop-section.section-index c.args.targets.now c.loop-section.next c.loop-section-test.false
    (c.loop-section.invariant parts link) each
