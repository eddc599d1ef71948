use Rattle.token_grammar.proofs.Values.{identifiers_alike}
use Rattle.token_grammar.proofs.part_laws.one_tree.Goals as goal

pub returns : goal.returns
returns c = identifiers_alike
