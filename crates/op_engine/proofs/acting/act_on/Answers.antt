-- An error is noted as the definition has it.
use Rattle.std.proofs.Common.{◌≡◌, ◌∙◌, List, ap, sym}
use Rattle.std.specs.Option.{option_map_or}
use Rattle.term_model.specs.declared.object.Object.{Object}
use Rattle.term_model.specs.declared.objects.NamedObject.{NamedObject}
use Rattle.op_engine.specs.Acting.{act_of, noted, noted_at, with_failure}
use Rattle.op_engine.specs.Selecting.{IsThere}
use Rattle.op_engine.proofs.SmallLaws.{effect_error, on_ok}
use Rattle.op_engine.proofs.acting.act_on.Goals as goal

pub returns-in-Err-Cmis : goal.returns-in-Err-Cmis
returns-in-Err-Cmis c =
    let act = act_of c.args.schema.now c.args.request.now c.args.time in
    let so_far = c.args.so_far.now in
    let entry = c.args.entry.now in
    let error = c.in-Err-Cmis.error in
    on_ok {P = c.note_failure.new.so_far ≡ with_failure c.args.atomic so_far error}
    {Q = (objects : List NamedObject) → IsThere objects entry
    → c.note_failure.new.so_far ≡ noted_at c.args.atomic act objects so_far entry.name}
    c.note_failure.result
    (λ made objects there. made
    ∙ ap (noted c.args.atomic so_far)
    (sym (effect_error (act objects entry.name entry.object) c.in-Err-Cmis.field-0 error c.in-Err-Cmis.field-0-is
    (c.in-Err-Cmis.ensures objects)))
    ∙ ap (λ o. option_map_or (λ (object : Object). noted c.args.atomic so_far (act objects entry.name object)) o so_far)
    (sym there))
    c.note_failure.ensures
