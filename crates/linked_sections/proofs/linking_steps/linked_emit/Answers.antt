-- The value that stands, or none.
use Rattle.std.proofs.Common.{Some, ap, sym, ◌∙◌}
use Rattle.gdmo_names.specs.PartViews.{optional_value}
use Rattle.linked_sections.specs.LinkedSections.IsStep.{emit}
use Rattle.linked_sections.proofs.linking_steps.linked_emit.Goals as goal

pub returns-in_ok-value-in-Some : goal.returns-in_ok-value-in-Some
returns-in_ok-value-in-Some c = λ parts rule links.
    emit links (ap Some c.in_ok-value-in-Some.ensures.tree ∙ sym (ap optional_value c.in-Some.is))

pub returns-in-None : goal.returns-in-None
returns-in-None c = λ parts rule links. emit links (sym (ap optional_value c.in-None.is))
