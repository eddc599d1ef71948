-- Some target, or none.
use Rattle.std.proofs.Common.{ap, length}
use Rattle.link_graphs.specs.Leading.{target_lists}
use Rattle.class_graphs.proofs.EmptyLaws.{some_listed}
use Rattle.class_graphs.proofs.class_members.lead_anywhere.Goals as goal

pub returns : goal.returns
returns c =
    let targets = c.in_ok-targets.targets in
    some_listed (target_lists c.args.graph.now) c.args.elements.now targets.marks targets.elements.items
    (length c.as_slice-count.result.now) (ap length c.as_slice-count.ensures.value) c.in_ok-targets.ensures
