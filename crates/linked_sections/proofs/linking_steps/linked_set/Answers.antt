-- ARGUMENT, another word alone, or another value.
use Rattle.std.proofs.Common.{ap, sym, ◌∙◌}
use Rattle.gdmo_names.specs.PartViews.{taken_term}
use Rattle.gdmo_rules.specs.TakenViews.{taken_view}
use Rattle.linked_sections.proofs.PlacedLaws.{set_is_argument, set_is_value, set_is_word}
use Rattle.linked_sections.proofs.linking_steps.linked_set.Goals as goal

pub returns-in-Argument : goal.returns-in-Argument
returns-in-Argument c = λ parts rule links.
    set_is_argument parts rule c.args.step.now.attribute _ (taken_term c.args.step.now.value) c.args.attribute
    (sym c.taken_value.ensures ∙ ap taken_view c.in-Argument.is) links

pub returns-in_ok-value-in-Word : goal.returns-in_ok-value-in-Word
returns-in_ok-value-in-Word c = λ parts rule links.
    set_is_word parts rule c.args.step.now.attribute _ (taken_term c.args.step.now.value) c.args.attribute
    c.in_ok-value-in-Word.value (sym c.taken_value.ensures ∙ ap taken_view c.in-Word.is) links
    c.in_ok-value-in-Word.ensures.taken

pub returns-in_ok-value-in-Value : goal.returns-in_ok-value-in-Value
returns-in_ok-value-in-Value c = λ parts rule links.
    set_is_value parts rule c.args.step.now.attribute (taken_term c.args.step.now.value) c.args.attribute _
    c.in_ok-value-in-Value.value (sym c.taken_value.ensures ∙ ap taken_view c.in-Value.is) links
    c.in_ok-value-in-Value.ensures.taken
