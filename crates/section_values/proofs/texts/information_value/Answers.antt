-- The value of the information of a notification that is there.
use Rattle.std.proofs.Common.{◌≡◌, ◌∙◌, None, Some, ap, sym}
use Rattle.std.specs.Prelude.{slice_get}
use Rattle.std.specs.Option.{option_copied}
use Rattle.std.proofs.lemmas.Option.{same_Some}
use Rattle.asn1_names.proofs.TableAnswers.{item_is}
use Rattle.linked_parts.specs.declared.linked.LinkedNotification.{LinkedNotification}
use Rattle.section_values.proofs.StepLaws.{no_information, not_there, information_noted}
use Rattle.section_values.proofs.texts.information_value.Goals as goal

pub returns-in_ok-value-in-Some-clause-told : goal.returns-in_ok-value-in-Some-clause-told
returns-in_ok-value-in-Some-clause-told c = λ ms part named syntax known at is has.
    let linked = c.args.parts.now.linked.now in
    let one = c.in-Some.part.now in
    let there : slice_get linked.notifications.items c.args.notification ≡ Some one =
    sym (ap (λ xs. slice_get xs c.args.notification) c.deref.ensures.value) ∙ sym (item_is c.deref.result.now
    c.args.notification c.get.result c.get.ensures.lookup.0 c.get.ensures.lookup.1) ∙ ap option_copied c.in-Some.is in
    c.in_ok-value-in-Some.ensures.told ms named syntax known (c.information_type-place.ensures ms one known there)
    (ap (λ (x : LinkedNotification). x.information) (same_Some one part (sym there ∙ at)) ∙ is) has

pub returns-in_ok-value-in-Some-clause-noted : goal.returns-in_ok-value-in-Some-clause-noted
returns-in_ok-value-in-Some-clause-noted c = λ ms known.
    let linked = c.args.parts.now.linked.now in
    let one = c.in-Some.part.now in
    let there : slice_get linked.notifications.items c.args.notification ≡ Some one =
    sym (ap (λ xs. slice_get xs c.args.notification) c.deref.ensures.value) ∙ sym (item_is c.deref.result.now
    c.args.notification c.get.result c.get.ensures.lookup.0 c.get.ensures.lookup.1) ∙ ap option_copied c.in-Some.is in
    information_noted ms linked c.args.notification c.args.text.now c.args.document one there
    (c.in_ok-value-in-Some.ensures.noted ms known (c.information_type-place.ensures ms one known there))

pub returns-in-None-clause-told : goal.returns-in-None-clause-told
returns-in-None-clause-told c = λ ms part named syntax known at is has.
    let linked = c.args.parts.now.linked.now in
    let there : slice_get linked.notifications.items c.args.notification ≡ None =
    sym (ap (λ xs. slice_get xs c.args.notification) c.deref.ensures.value) ∙ sym (item_is c.deref.result.now
    c.args.notification c.get.result c.get.ensures.lookup.0 c.get.ensures.lookup.1) ∙ ap option_copied c.in-None.is in
    absurd (not_there (slice_get linked.notifications.items c.args.notification) part there at)

pub returns-in-None-clause-noted : goal.returns-in-None-clause-noted
returns-in-None-clause-noted c = λ ms known.
    let linked = c.args.parts.now.linked.now in
    let there : slice_get linked.notifications.items c.args.notification ≡ None =
    sym (ap (λ xs. slice_get xs c.args.notification) c.deref.ensures.value) ∙ sym (item_is c.deref.result.now
    c.args.notification c.get.result c.get.ensures.lookup.0 c.get.ensures.lookup.1) ∙ ap option_copied c.in-None.is in
    no_information ms linked c.args.notification c.args.text.now c.args.document c.args.bad.now.first there
