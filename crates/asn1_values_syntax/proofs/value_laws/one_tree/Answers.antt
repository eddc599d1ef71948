-- By the laws of each kind of value.
use Rattle.asn1_values_syntax.proofs.OneTree.{parts_alike, values_alike}
use Rattle.asn1_values_syntax.proofs.value_laws.one_tree.Goals as goal

pub returns : goal.returns
returns c = record { value = values_alike; part = parts_alike }
