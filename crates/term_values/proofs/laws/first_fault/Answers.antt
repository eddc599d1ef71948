use Rattle.term_values.proofs.Statements.{no_fault_beside_tree_holds, some_fault_holds, one_fault_holds}
use Rattle.term_values.proofs.Statements.{found_fault_holds}
use Rattle.term_values.proofs.laws.first_fault.Goals as goal

pub returns-clause-beside : goal.returns-clause-beside
returns-clause-beside c = no_fault_beside_tree_holds

pub returns-clause-some : goal.returns-clause-some
returns-clause-some c = some_fault_holds

pub returns-clause-one : goal.returns-clause-one
returns-clause-one c = one_fault_holds

pub returns-clause-found : goal.returns-clause-found
returns-clause-found c = found_fault_holds
