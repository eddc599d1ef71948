-- What the members so far leave to be read.
use Rattle.std.proofs.Common.{◌≡◌, List, ◌++◌, drop}
use Rattle.std.specs.Option.{option_map}
use Rattle.term_values.specs.Tree.{listed}
use Rattle.term_model.specs.declared.request.IdRef.{IdRef}
use Rattle.term_model.specs.ArgumentRows.{all_in}
use Rattle.term_model.specs.Assertions.{id_in}
use Rattle.argument_parts.proofs.lists.read_ids.Given as goal

abbrev pub invariant-loop-tree : goal.invariant-loop-tree
invariant-loop-tree l = all_in (id_in 0 1) (listed l.trees)
    ≡ option_map (λ (rest : List IdRef). l.items.items ++ rest)
    (all_in (id_in 0 1) (listed (drop l.tree-index l.trees)))
