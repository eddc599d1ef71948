-- The record that is made, and that there are types at the place.
use Rattle.std.proofs.Common.{◌≡◌, ◌∙◌, None, Some, ap, sym}
use Rattle.std.specs.Prelude.{slice_get}
use Rattle.std.specs.Option.{option_copied}
use Rattle.asn1_names.proofs.TableAnswers.{item_is}
use Rattle.linked_types.proofs.NamingLaws.{no_gap}
use Rattle.schema_records.proofs.member_records.push_action.Goals as goal

pub returns-in_ok-push-in-Some-get : goal.returns-in_ok-push-in-Some-get
returns-in_ok-push-in-Some-get c = λ ms known at registered mean.
    let parts = c.args.parts.now in
    let types = c.in-Some-get.types.now in
    let there : slice_get parts.types.now.actions.items c.args.place ≡ Some types =
    sym (ap (λ xs. slice_get xs c.args.place) c.deref.ensures.value) ∙ sym (item_is c.deref.result.now c.args.place
    c.get.result c.get.ensures.lookup.0 c.get.ensures.lookup.1) ∙ ap option_copied c.in-Some-get.is in record {
      x = c.in_ok-action_record-in-Some-get.field-0;
      behind = c.in_ok-push-in-Some-get.ensures.items;
      is = c.in_ok-action_record-in-Some-get.ensures ms c.in-Some.is
          (known.types_are.of_actions.told c.args.place c.args.part.now types at there) mean;
    }

pub returns-in-None-get : goal.returns-in-None-get
returns-in-None-get c = λ ms known at registered mean.
    let parts = c.args.parts.now in
    let there : slice_get parts.types.now.actions.items c.args.place ≡ None =
    sym (ap (λ xs. slice_get xs c.args.place) c.deref.ensures.value) ∙ sym (item_is c.deref.result.now c.args.place
    c.get.result c.get.ensures.lookup.0 c.get.ensures.lookup.1) ∙ ap option_copied c.in-None-get.is in
    absurd (no_gap c.args.place c.args.part.now known.types_are.of_actions at there)
