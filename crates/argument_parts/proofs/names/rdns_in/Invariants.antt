-- What the parts so far leave to be read.
use Rattle.std.proofs.Common.{◌≡◌, drop}
use Rattle.std.specs.Option.{option_map}
use Rattle.term_values.specs.Tree.{listed}
use Rattle.term_model.specs.InstanceNames.{rdns_in}
use Rattle.argument_parts.proofs.NameParts.{behind}
use Rattle.argument_parts.proofs.names.rdns_in.Given as goal

abbrev pub invariant-loop-tree : goal.invariant-loop-tree
invariant-loop-tree l = rdns_in l.records (listed l.trees)
    ≡ option_map (behind l.whole l.parts.items) (rdns_in l.records (listed (drop l.tree-index l.trees)))
