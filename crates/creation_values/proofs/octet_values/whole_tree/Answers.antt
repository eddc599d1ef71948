-- Octets stand behind the tree, so they do not spell it.
use Rattle.creation_values.proofs.OctetLaws.{leftover}
use Rattle.creation_values.proofs.octet_values.whole_tree.Goals as goal

pub returns-else-size-bytes : goal.returns-else-size-bytes
returns-else-size-bytes c =
    let read = rw c.in-Some.is at c.in_ok-read_deep_tree.ensures.read in
    let within = rw c.in-Some.is at c.in_ok-read_deep_tree.ensures.within in
    leftover c.args.bytes.now c.in-Some.tree c.in-Some.size read within c.if-size-bytes.false
