use Rattle.term_values.proofs.Statements.{one_tree_holds}
use Rattle.term_values.proofs.laws.one_tree.Goals as goal

pub returns : goal.returns
returns c = one_tree_holds
