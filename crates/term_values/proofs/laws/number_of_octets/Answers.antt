use Rattle.term_values.proofs.Statements.{number_of_octets_holds, octets_of_number_holds}
use Rattle.term_values.proofs.laws.number_of_octets.Goals as goal

pub returns-clause-number : goal.returns-clause-number
returns-clause-number c = number_of_octets_holds

pub returns-clause-octets : goal.returns-clause-octets
returns-clause-octets c = octets_of_number_holds
