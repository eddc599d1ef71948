-- One more target.
use Rattle.std.proofs.Common.{refl, length}
use Rattle.std.proofs.lemmas.Option.{slice_get_read}
use Rattle.link_graphs.proofs.TurnLaws.{with_more}
use Rattle.link_graphs.proofs.graph.Graph.add.Goals as goal

pub returns-in_ok-push : goal.returns-in_ok-push
returns-in_ok-push c =
    let lists = c.args.self.now.targets.items in
    let i = c.args.element in
    let v = c.in-Some.targets.now in
    with_more lists i v c.push.new.self c.args.target
    (slice_get_read lists (length lists) i v refl c.in-Some.ensures.item.3.0 c.in-Some.ensures.value)
    c.in_ok-push.ensures.items
