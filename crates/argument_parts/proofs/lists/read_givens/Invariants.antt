-- What the members so far leave to be read.
use Rattle.std.proofs.Common.{◌≡◌, List, ◌++◌, drop}
use Rattle.std.specs.Option.{option_map}
use Rattle.term_values.specs.Tree.{listed}
use Rattle.term_model.specs.declared.filter_item.Given.{Given}
use Rattle.term_model.specs.ArgumentRows.{all_in}
use Rattle.term_model.specs.CreateReading.{attribute_in}
use Rattle.argument_parts.proofs.lists.read_givens.Given as goal

abbrev pub invariant-loop-tree : goal.invariant-loop-tree
invariant-loop-tree l = all_in (attribute_in l.records) (listed l.trees)
    ≡ option_map (λ (rest : List Given). l.items.items ++ rest)
    (all_in (attribute_in l.records) (listed (drop l.tree-index l.trees)))
