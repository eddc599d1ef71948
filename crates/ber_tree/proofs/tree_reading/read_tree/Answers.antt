use Rattle.ber_tree.proofs.Answering.{answer_spells, answer_fault, answer_spelt, answer_faulty}
use Rattle.ber_tree.proofs.IntegerLaws.{octets_fit}
use Rattle.ber_tree.proofs.tree_reading.read_tree.Goals as goal

pub returns-clause-spells : goal.returns-clause-spells
returns-clause-spells c =
    answer_spells c.args.bytes.now c.read_value.result (octets_fit c.args.bytes.now c.type_inv.bytes)
    c.read_value.ensures

pub returns-clause-fault : goal.returns-clause-fault
returns-clause-fault c =
    answer_fault c.args.bytes.now c.read_value.result (octets_fit c.args.bytes.now c.type_inv.bytes)
    c.read_value.ensures

pub returns-clause-spelt : goal.returns-clause-spelt
returns-clause-spelt c = answer_spelt c.args.bytes.now c.read_value.result c.read_value.ensures

pub returns-clause-faulty : goal.returns-clause-faulty
returns-clause-faulty c = answer_faulty c.args.bytes.now c.read_value.result c.read_value.ensures
