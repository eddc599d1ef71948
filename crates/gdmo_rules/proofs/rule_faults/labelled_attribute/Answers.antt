-- The template that the label means, or none.
use Rattle.std.proofs.Common.{ap, sym, ◌∙◌}
use Rattle.asn1_names.specs.FirstNames.{found}
use Rattle.gdmo_names.specs.FoundViews.{found_views, numbered}
use Rattle.gdmo_rules.proofs.LabelledLaws.{nothing_told, number_told}
use Rattle.gdmo_rules.proofs.rule_faults.labelled_attribute.Goals as goal

pub returns-in-Some : goal.returns-in-Some
returns-in-Some c = λ parts are tells.
    let views = found_views c.args.templates.now in
    let looked = sym c.in-Some.is ∙ c.copied.ensures ∙ c.get.ensures.value ∙
    ap (found c.args.labels.now) c.as_slice.ensures in
    number_told parts c.args.templates.now c.args.label.now c.in-Some.number c.attribute_number.result
    (ap (numbered views) looked ∙ tells c.args.label.now.text) c.attribute_number.ensures.some
    c.attribute_number.ensures.none

pub returns-in-None : goal.returns-in-None
returns-in-None c = λ parts are tells.
    let views = found_views c.args.templates.now in
    let looked = sym c.in-None.is ∙ c.copied.ensures ∙ c.get.ensures.value ∙
    ap (found c.args.labels.now) c.as_slice.ensures in
    nothing_told parts c.args.templates.now c.args.label.now
    (sym (tells c.args.label.now.text) ∙ sym (ap (numbered views) looked))
