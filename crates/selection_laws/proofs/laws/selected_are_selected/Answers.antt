use Rattle.selection_laws.proofs.SelectionLaws.{list_has_selected, selected_names_rise}
use Rattle.selection_laws.proofs.laws.selected_are_selected.Goals as goal

pub returns-clause-has : goal.returns-clause-has
returns-clause-has c = list_has_selected

pub returns-clause-rise : goal.returns-clause-rise
returns-clause-rise c = selected_names_rise
