use Rattle.arc_laws.proofs.DocumentIdentifiers.{all_arcs_whole}
use Rattle.arc_laws.proofs.laws.arcs_are_whole.Goals as goal

pub returns : goal.returns
returns c = all_arcs_whole
