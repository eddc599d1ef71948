-- The label stands behind the first of its name, or it doesn't.
use Rattle.std.proofs.Common.{◌∙◌, ap, option_map, sym}
use Rattle.asn1_names.specs.FirstNames.{found}
use Rattle.gdmo_names.specs.FoundViews.{found_view, found_views, numbered}
use Rattle.gdmo_targets.proofs.DoubleLaws.{behind_noted, first_noted}
use Rattle.gdmo_targets.proofs.labels.note_double_label.Goals as goal

pub returns-then-comes_behind : goal.returns-then-comes_behind
returns-then-comes_behind c =
    behind_noted (λ label. numbered (found_views c.args.templates.now) (found c.args.labels.now label))
    (found_view c.args.template.now) c.as_slice.result.now (option_map (λ x. found_view x.now) c.numbered.result)
    c.args.faults.now.first c.note.new.self.first c.as_slice.ensures
    (c.numbered.ensures ∙ ap (numbered (found_views c.args.templates.now))
    (c.copied-number.ensures ∙ c.get.ensures.value))
    (sym c.comes_behind.ensures ∙ c.if-comes_behind.true) c.note.ensures

pub returns-else-comes_behind : goal.returns-else-comes_behind
returns-else-comes_behind c =
    first_noted (λ label. numbered (found_views c.args.templates.now) (found c.args.labels.now label))
    (found_view c.args.template.now) c.as_slice.result.now (option_map (λ x. found_view x.now) c.numbered.result)
    c.args.faults.now.first c.as_slice.ensures
    (c.numbered.ensures ∙ ap (numbered (found_views c.args.templates.now))
    (c.copied-number.ensures ∙ c.get.ensures.value))
    (sym c.comes_behind.ensures ∙ c.if-comes_behind.false)
