-- The attribute at the place, or none.
use Rattle.std.proofs.Common.{rules, ◌<◌, ◌≤◌, length, set, sym, ap, ◌∙◌}
use Rattle.term_model.specs.declared.object.Attribute.{Attribute}
use Rattle.term_model.specs.Modifications.{without_full}
use Rattle.object_modifications.proofs.StatusLaws.{at_place, past_place}
use Rattle.object_modifications.proofs.log_status.take_full_at.Goals as goal

pub returns-in_ok-left : goal.returns-in_ok-left
returns-in_ok-left c =
    let xs = c.args.attributes.now.items in
    let place = c.args.place in
    let within : place < length xs = search rules in
    ap (λ (y : Attribute). set xs place y)
    (c.in_ok-left.ensures ∙ ap (without_full c.args.records.now) c.index.ensures)
    ∙ at_place c.args.records.now place xs c.index.result.now within

pub returns-else-place-as_slice : goal.returns-else-place-as_slice
returns-else-place-as_slice c =
    let past : length c.args.attributes.now.items ≤ c.args.place = search rules in
    sym (past_place c.args.records.now c.args.place c.args.attributes.now.items past)
