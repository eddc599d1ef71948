-- One more section, and all of them.
use Rattle.std.proofs.Common.{ap, arith}
use Rattle.gdmo_targets.specs.StatedRules.{rule_terms}
use Rattle.gdmo_targets.proofs.StatedLaws.{sections_all, sections_next}
use Rattle.gdmo_rules.proofs.rule_texts.rules_of.Goals as goal

pub loop-section-init : goal.loop-section-init
loop-section-init c = ap rule_terms c.new-rules.ensures.items

pub loop-section-preserved : goal.loop-section-preserved
loop-section-preserved c = sections_next c.args.sections.now c.loop-section.section-index c.section-item.result
    (rule_terms c.loop-section.rules.items) (rule_terms c.add_section.new.rules.items) c.loop-section-test.true
    c.section-item.is c.in_ok-add_section.ensures c.loop-section.invariant

pub returns : goal.returns
returns c = sections_all c.args.sections.now c.loop-section.section-index (rule_terms c.loop-section.rules.items)
    (omega (arith, c.loop-section-test.false)) c.loop-section.invariant
