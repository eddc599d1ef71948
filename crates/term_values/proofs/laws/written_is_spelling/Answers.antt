use Rattle.term_values.proofs.Statements.{written_spells_holds, written_is_read_holds}
use Rattle.term_values.proofs.laws.written_is_spelling.Goals as goal

pub returns-clause-spells : goal.returns-clause-spells
returns-clause-spells c = written_spells_holds

pub returns-clause-read_back : goal.returns-clause-read_back
returns-clause-read_back c = written_is_read_holds
