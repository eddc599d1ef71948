-- One more section, and all of them.
use Rattle.class_graphs.proofs.RootLaws.{roots_end, roots_step}
use Rattle.class_graphs.proofs.root_links.root_marks.Goals as goal

pub loop-section-init : goal.loop-section-init
loop-section-init c = c.new-roots.ensures.items

pub loop-section-preserved : goal.loop-section-preserved
loop-section-preserved c = roots_step c.args.sections.now c.loop-section.section-index c.section-item.result
    c.loop-section.roots.items c.add_any_section.new.roots.items c.loop-section-test.true c.section-item.is
    c.in_ok-add_any_section.ensures c.loop-section.invariant

pub returns : goal.returns
returns c = roots_end c.args.sections.now c.loop-section.section-index c.loop-section.roots.items
    c.loop-section-test.false c.loop-section.invariant
