use Rattle.filter_laws.proofs.FilterRead.{denoted_filter_is_read, no_filter_is_denoted}
use Rattle.filter_laws.proofs.FilterTold.{filter_is_denoted}
use Rattle.filter_laws.proofs.GivenTold.{given_is_denoted}
use Rattle.filter_laws.proofs.IdTold.{denoted_id_is_read, id_is_denoted}
use Rattle.filter_laws.proofs.laws.reading_is_denoting.Goals as goal

pub returns-clause-id : goal.returns-clause-id
returns-clause-id c = id_is_denoted

pub returns-clause-id_read : goal.returns-clause-id_read
returns-clause-id_read c = denoted_id_is_read

pub returns-clause-given : goal.returns-clause-given
returns-clause-given c = given_is_denoted

pub returns-clause-filter : goal.returns-clause-filter
returns-clause-filter c = filter_is_denoted

pub returns-clause-filter_read : goal.returns-clause-filter_read
returns-clause-filter_read c = denoted_filter_is_read

pub returns-clause-no_filter : goal.returns-clause-no_filter
returns-clause-no_filter c = no_filter_is_denoted
