use Rattle.term_values.proofs.Statements.{reading_spells_holds, spelling_is_read_holds, whole_reading_holds}
use Rattle.term_values.proofs.laws.reading_is_spelling.Goals as goal

pub returns-clause-read : goal.returns-clause-read
returns-clause-read c = reading_spells_holds

pub returns-clause-spelt : goal.returns-clause-spelt
returns-clause-spelt c = spelling_is_read_holds

pub returns-clause-whole : goal.returns-clause-whole
returns-clause-whole c = whole_reading_holds
