use Rattle.std.proofs.Common.{rules, ◌≡◌, arith}
use Rattle.asn1_leaf_values.proofs.AnyLaws.{tree_whole, tree_more, tree_none}
use Rattle.asn1_leaf_values.proofs.any_values.tree_of.Goals as goal

pub returns-then-size-octets : goal.returns-then-size-octets
returns-then-size-octets c =
    tree_whole c.args.octets.now c.in-Some.tree c.in-Some.size (search rules) (search rules)

pub returns-else-size-octets : goal.returns-else-size-octets
returns-else-size-octets c =
    tree_more c.args.octets.now c.in-Some.tree c.in-Some.size (search rules) (search rules) (search rules)
