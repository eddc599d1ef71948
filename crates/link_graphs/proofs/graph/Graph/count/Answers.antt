-- The number of elements is that of lists of targets.
use Rattle.std.proofs.lemmas.List.{length-map}
use Rattle.link_graphs.proofs.graph.Graph.count.Goals as goal

pub returns : goal.returns
returns c = let e = c.as_slice.ensures.value in simp (e, length-map)
