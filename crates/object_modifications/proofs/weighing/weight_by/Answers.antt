-- An Attribute has its identifier and its value.
use Rattle.std.proofs.Common.{◌≡◌, ◌&&◌, ◌++◌, ◌∙◌, ap, false, refl, sym, true}
use Rattle.term_values.specs.Der.{encoded}
use Rattle.term_values.specs.Lengths.{octet_count}
use Rattle.term_values.specs.Oid.{oid_contents}
use Rattle.term_model.specs.BoundClasses.{tells_of_records}
use Rattle.term_model.specs.GetRequest.{global_form}
use Rattle.term_model.specs.ObjectOperation.{value_octets}
use Rattle.object_modifications.proofs.WeighingLaws.{both_counted}
use Rattle.object_modifications.proofs.weighing.weight_by.Goals as goal

pub returns : goal.returns
returns c = λ attribute same named value.
    let records = c.args.records.now in
    let front = encoded false global_form (oid_contents attribute.id) in
    let loud : (c.args.bound && tells_of_records records attribute.id) ≡ false =
    ap (λ id. c.args.bound && tells_of_records records id) same ∙ sym c.is_silent.ensures ∙ c.if-is_silent.false in
    rw loud (c.with_header.ensures (front ++ value_octets records attribute)
    (both_counted c.args.named c.args.value c.plus.result front (value_octets records attribute)
    (named ∙ ap (λ id. octet_count (encoded false global_form (oid_contents id))) (sym same)) value c.plus.ensures))

pub returns-then-is_silent : goal.returns-then-is_silent
returns-then-is_silent c = λ attribute same named value.
    let silent : (c.args.bound && tells_of_records c.args.records.now attribute.id) ≡ true =
    ap (λ id. c.args.bound && tells_of_records c.args.records.now id) same ∙ sym c.is_silent.ensures
    ∙ c.if-is_silent.true in
    rw silent refl
