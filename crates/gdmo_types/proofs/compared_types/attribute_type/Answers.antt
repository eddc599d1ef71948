-- What is known of the attribute, and the number of its type.
use Rattle.std.proofs.Common.{◌∙◌, Some, ap, refl, sym}
use Rattle.std.proofs.lemmas.Bool.{ltb-false, ltb-true}
use Rattle.std.proofs.lemmas.Option.{slice_get_past, slice_get_read}
use Rattle.gdmo_names.specs.PartTerms.{module_terms_of}
use Rattle.gdmo_types.proofs.ComparedLaws.{attribute_meant, type_past, type_there}
use Rattle.gdmo_types.proofs.StepLaws.{if_ok_by}
use Rattle.gdmo_types.proofs.compared_types.attribute_type.Goals as goal

pub returns-in-Some-Of-clause-told : goal.returns-in-Some-Of-clause-told
returns-in-Some-Of-clause-told c =
    let arm = c.in-Some-Of in
    let linkage = c.args.linkage.now in
    let types = linkage.attributes.now in
    let at = arm.ensures.lookup in
    if_ok_by c.meant_type.result (λ type told parts x is are there.
    attribute_meant parts c.meant_type.new.numbers.lists x arm.meaning type
    (type_there parts linkage.templates.now types c.args.attribute x _ is.are_attributes there
    (slice_get_read types _ c.args.attribute arm.field-0.now refl (ltb-true _ _ (sym at.0)) at.1 ∙
    ap Some arm.field-0-is)) (λ meant means. told (module_terms_of parts) meant are means)) c.meant_type.ensures.told

pub returns-in-Some-Endless-clause-told : goal.returns-in-Some-Endless-clause-told
returns-in-Some-Endless-clause-told c = λ parts x is are there.
    let arm = c.in-Some-Endless in
    let linkage = c.args.linkage.now in
    let types = linkage.attributes.now in
    let at = arm.ensures.lookup in
    type_there parts linkage.templates.now types c.args.attribute x _ is.are_attributes there
    (slice_get_read types _ c.args.attribute arm.field-0.now refl (ltb-true _ _ (sym at.0)) at.1 ∙
    ap Some arm.field-0-is)

pub returns-in-Some-Missing-clause-told : goal.returns-in-Some-Missing-clause-told
returns-in-Some-Missing-clause-told c = λ parts x is are there.
    let arm = c.in-Some-Missing in
    let linkage = c.args.linkage.now in
    let types = linkage.attributes.now in
    let at = arm.ensures.lookup in
    type_there parts linkage.templates.now types c.args.attribute x _ is.are_attributes there
    (slice_get_read types _ c.args.attribute arm.field-0.now refl (ltb-true _ _ (sym at.0)) at.1 ∙
    ap Some arm.field-0-is)

pub returns-in-None-clause-told : goal.returns-in-None-clause-told
returns-in-None-clause-told c = λ parts x is are there.
    let linkage = c.args.linkage.now in
    let types = linkage.attributes.now in
    type_past parts linkage.templates.now types c.args.attribute x is.are_attributes there
    (slice_get_past types c.args.attribute (ltb-false _ _ (sym c.in-None.ensures.lookup.0)))
