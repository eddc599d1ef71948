-- One more instance, and all of a section.
use Rattle.std.proofs.Common.{◌≡◌, ◌<◌, ◌≤◌, get_or, length, subst}
use Rattle.class_graphs.proofs.RootLaws.{marks_end, marks_step}
use Rattle.class_graphs.proofs.root_links.add_section.Goals as goal

pub loop-instance-preserved : goal.loop-instance-preserved
loop-instance-preserved c =
    let same = c.deref-instance-items.ensures.value in
    marks_step c.args.roots.now.items c.args.section.now.document c.args.section.now.instances.items
    c.loop-instance.instance-index c.instance-item.result c.loop-instance.roots.items c.push.new.self.items
    c.is_root.result (subst (λ xs. c.loop-instance.instance-index < length xs) same c.loop-instance-test.true)
    (subst (λ xs. c.instance-item.result ≡ get_or xs c.loop-instance.instance-index c.instance-item.result) same
    c.instance-item.is) c.is_root.ensures c.in_ok-push.ensures.items c.loop-instance.invariant

pub returns : goal.returns
returns c =
    let same = c.deref-instance-items.ensures.value in
    marks_end c.args.roots.now.items c.args.section.now.document c.args.section.now.instances.items
    c.loop-instance.instance-index c.loop-instance.roots.items
    (subst (λ xs. length xs ≤ c.loop-instance.instance-index) same c.loop-instance-test.false) c.loop-instance.invariant
