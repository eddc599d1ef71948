-- The value of the reply of an action that is there.
use Rattle.std.proofs.Common.{◌≡◌, ◌∙◌, None, Some, ap, sym}
use Rattle.std.specs.Prelude.{slice_get}
use Rattle.std.specs.Option.{option_copied}
use Rattle.std.proofs.lemmas.Option.{same_Some}
use Rattle.asn1_names.proofs.TableAnswers.{item_is}
use Rattle.linked_parts.specs.declared.linked.LinkedAction.{LinkedAction}
use Rattle.section_values.proofs.StepLaws.{no_reply, not_there, reply_noted}
use Rattle.section_values.proofs.texts.reply_value.Goals as goal

pub returns-in_ok-value-in-Some-clause-told : goal.returns-in_ok-value-in-Some-clause-told
returns-in_ok-value-in-Some-clause-told c = λ ms part named syntax known at is has.
    let linked = c.args.parts.now.linked.now in
    let one = c.in-Some.part.now in
    let there : slice_get linked.actions.items c.args.action ≡ Some one =
    sym (ap (λ xs. slice_get xs c.args.action) c.deref.ensures.value) ∙ sym (item_is c.deref.result.now
    c.args.action c.get.result c.get.ensures.lookup.0 c.get.ensures.lookup.1) ∙ ap option_copied c.in-Some.is in
    c.in_ok-value-in-Some.ensures.told ms named syntax known (c.reply_type-place.ensures ms one known there)
    (ap (λ (x : LinkedAction). x.reply) (same_Some one part (sym there ∙ at)) ∙ is) has

pub returns-in_ok-value-in-Some-clause-noted : goal.returns-in_ok-value-in-Some-clause-noted
returns-in_ok-value-in-Some-clause-noted c = λ ms known.
    let linked = c.args.parts.now.linked.now in
    let one = c.in-Some.part.now in
    let there : slice_get linked.actions.items c.args.action ≡ Some one =
    sym (ap (λ xs. slice_get xs c.args.action) c.deref.ensures.value) ∙ sym (item_is c.deref.result.now
    c.args.action c.get.result c.get.ensures.lookup.0 c.get.ensures.lookup.1) ∙ ap option_copied c.in-Some.is in
    reply_noted ms linked c.args.action c.args.text.now c.args.document one there
    (c.in_ok-value-in-Some.ensures.noted ms known (c.reply_type-place.ensures ms one known there))

pub returns-in-None-clause-told : goal.returns-in-None-clause-told
returns-in-None-clause-told c = λ ms part named syntax known at is has.
    let linked = c.args.parts.now.linked.now in
    let there : slice_get linked.actions.items c.args.action ≡ None =
    sym (ap (λ xs. slice_get xs c.args.action) c.deref.ensures.value) ∙ sym (item_is c.deref.result.now
    c.args.action c.get.result c.get.ensures.lookup.0 c.get.ensures.lookup.1) ∙ ap option_copied c.in-None.is in
    absurd (not_there (slice_get linked.actions.items c.args.action) part there at)

pub returns-in-None-clause-noted : goal.returns-in-None-clause-noted
returns-in-None-clause-noted c = λ ms known.
    let linked = c.args.parts.now.linked.now in
    let there : slice_get linked.actions.items c.args.action ≡ None =
    sym (ap (λ xs. slice_get xs c.args.action) c.deref.ensures.value) ∙ sym (item_is c.deref.result.now
    c.args.action c.get.result c.get.ensures.lookup.0 c.get.ensures.lookup.1) ∙ ap option_copied c.in-None.is in
    no_reply ms linked c.args.action c.args.text.now c.args.document c.args.bad.now.first there
