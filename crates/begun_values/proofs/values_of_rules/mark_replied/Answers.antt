-- The value that is replied.
use Rattle.std.proofs.Common.{◌∙◌, ap, sym}
use Rattle.asn1_values_syntax.specs.ValueTrees.{value_tree}
use Rattle.gdmo_names.specs.PartTerms.{module_terms_of}
use Rattle.gdmo_names.specs.PartViews.{reply_term}
use Rattle.gdmo_rules.specs.TakenViews.{taken_view}
use Rattle.gdmo_types.proofs.FieldLaws.{on_ok_by}
use Rattle.begun_values.specs.SectionValues.{ReplySyntax}
use Rattle.begun_values.proofs.SectionLaws.{taken_marked, valued}
use Rattle.begun_values.proofs.values_of_rules.mark_replied.Goals as goal

pub returns-in-Value : goal.returns-in-Value
returns-in-Value c = on_ok_by c.mark_value.result (λ marked parts rule link tells.
    let Of = ReplySyntax parts rule in
    let text = value_tree c.in-Value.value.now in
    taken_marked Of (reply_term c.args.reply.now) text (ap taken_view (sym c.in-Value.is) ∙ c.taken_reply.ensures)
    (valued (module_terms_of parts) Of c.reply_meaning.result text c.args.names.now c.mark_value.new.names
    (c.reply_meaning.ensures parts rule link tells) (marked parts link))) c.mark_value.ensures
