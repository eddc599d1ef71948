-- The label is kept, or an earlier template has it.
use Rattle.std.proofs.Common.{◌∙◌, ap, option_map, sym}
use Rattle.asn1_names.specs.FirstNames.{found}
use Rattle.gdmo_names.specs.FoundViews.{found_view, found_views, numbered}
use Rattle.gdmo_targets.proofs.TableLaws.{label_kept, label_left}
use Rattle.gdmo_targets.proofs.labels.keep_label.Goals as goal

pub returns-in_ok-insert : goal.returns-in_ok-insert
returns-in_ok-insert c =
    label_kept (found_views c.args.templates.now) (found_view c.args.template.now) c.as_slice-label.result.now
    c.args.number (found c.args.table.now) (found c.insert.new.self)
    (option_map (λ x. found_view x.now) c.numbered-first.result)
    c.as_slice-label.ensures
    (c.numbered-first.ensures ∙ ap (numbered (found_views c.args.templates.now))
    (c.copied.ensures ∙ c.get.ensures.value))
    (sym c.comes_first.ensures ∙ c.if-comes_first.true)
    (λ label. c.in_ok-insert.ensures.updates.0 (record { ref_ptr = (0, 0); now = label }))

pub returns-else-comes_first : goal.returns-else-comes_first
returns-else-comes_first c =
    label_left (found_views c.args.templates.now) (found_view c.args.template.now) c.as_slice-label.result.now
    c.args.number (found c.args.table.now) (option_map (λ x. found_view x.now) c.numbered-first.result)
    c.as_slice-label.ensures
    (c.numbered-first.ensures ∙ ap (numbered (found_views c.args.templates.now))
    (c.copied.ensures ∙ c.get.ensures.value))
    (sym c.comes_first.ensures ∙ c.if-comes_first.false)
