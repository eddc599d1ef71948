use Rattle.std.proofs.Common.{◌≡◌, ◌∙◌, ap, false, map}
use Rattle.term_values.specs.Lengths.{counted}
use Rattle.term_values.specs.Rearranged.{joined, rising}
use Rattle.term_model.specs.declared.object.Object.{Object}
use Rattle.term_model.specs.ObjectOperation.{attribute_octets}
use Rattle.attribute_rules.specs.Weights.{weights}
use Rattle.mib_opening.proofs.SizeLaws.{set_contents}
use Rattle.mib_opening.proofs.log_records.record_octets.Goals as goal

pub returns : goal.returns
returns c =
    let records = c.args.records.now in
    let attributes = c.args.object.now.attrs in
    let same : c.as_slice.result.now ≡ attributes =
    c.as_slice.ensures.value ∙ ap (λ (object : Object). object.attrs) c.object.view_is in
    c.with_header.ensures (joined (rising (map (attribute_octets records) attributes)))
    (set_contents records attributes c.in_ok-contents.contents
    (c.in_ok-contents.ensures ∙ ap (λ held. counted (weights records false held)) same))
