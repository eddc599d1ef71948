use Rattle.grammar_laws.proofs.OneSpelling.{decided_forms_spell_once}
use Rattle.grammar_laws.proofs.laws.decided_forms_are_spelt_once.Goals as goal

pub returns : goal.returns
returns c = decided_forms_spell_once
