-- One more target, where there is the element.
use Rattle.std.proofs.Common.{length, refl}
use Rattle.link_graphs.specs.Leading.{target_lists}
use Rattle.link_graphs.proofs.TurnLaws.{with_more}
use Rattle.std.proofs.lemmas.Option.{slice_get_read}
use Rattle.reached_elements.proofs.LinkLaws.{links_one}
use Rattle.reached_elements.proofs.linking.add_link.Goals as goal

pub returns-in_ok-push : goal.returns-in_ok-push
returns-in_ok-push c =
    let rows = c.args.graph.now.targets.items in
    let i = c.args.element in
    let v = c.in-Some.targets.now in
    links_one (target_lists c.args.graph.now) _ i c.args.target
    (with_more rows i v c.push.new.self c.args.target
    (slice_get_read rows (length rows) i v refl c.in-Some.ensures.item.3.0 c.in-Some.ensures.value)
    c.in_ok-push.ensures.items)
