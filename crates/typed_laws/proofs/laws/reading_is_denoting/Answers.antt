use Rattle.typed_laws.proofs.ReadingStatements.{reading_denotes_holds, denoted_is_read_holds, reading_is_exact_holds}
use Rattle.typed_laws.proofs.ReadingStatements.{none_is_denoted_holds, spelt_has_octets_holds}
use Rattle.typed_laws.proofs.laws.reading_is_denoting.Goals as goal

pub returns-clause-denotes : goal.returns-clause-denotes
returns-clause-denotes c = reading_denotes_holds

pub returns-clause-read : goal.returns-clause-read
returns-clause-read c = denoted_is_read_holds

pub returns-clause-none : goal.returns-clause-none
returns-clause-none c = none_is_denoted_holds

pub returns-clause-exact : goal.returns-clause-exact
returns-clause-exact c = reading_is_exact_holds

pub returns-clause-octets : goal.returns-clause-octets
returns-clause-octets c = spelt_has_octets_holds
