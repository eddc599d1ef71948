-- The tables are those of the same modules.
use Rattle.std.proofs.Common.{◌∙◌, ap}
use Rattle.asn1_names.specs.AssignmentNumbers.{assignment_count}
use Rattle.asn1_names.specs.TermViews.{module_terms}
use Rattle.gdmo_first_names.proofs.assigned_names.count_of.Goals as goal

pub returns : goal.returns
returns c = c.count.ensures ∙ ap (λ ms. assignment_count (module_terms ms)) c.tables.ensures
