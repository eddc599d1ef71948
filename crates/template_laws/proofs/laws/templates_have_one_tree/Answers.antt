use Rattle.template_laws.proofs.Trees.{templates_have_one_tree}
use Rattle.template_laws.proofs.laws.templates_have_one_tree.Goals as goal

pub returns : goal.returns
returns c = templates_have_one_tree
