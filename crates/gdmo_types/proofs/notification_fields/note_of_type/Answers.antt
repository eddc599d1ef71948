-- The information is of no type, or each of its fields is looked at.
use Rattle.std.proofs.Common.{map, sym}
use Rattle.std.proofs.Math.Path.{subst}
use Rattle.asn1_names.specs.CodeMeanings.{Means as IsCode}
use Rattle.asn1_names.specs.NodeCount.{IsNoType}
use Rattle.type_numbers.specs.AskedTypes.{TellsNumber}
use Rattle.gdmo_names.specs.FoundViews.{body_term}
use Rattle.gdmo_names.specs.InStep.{AreEach}
use Rattle.gdmo_names.specs.PartTerms.{module_terms_of}
use Rattle.gdmo_names.specs.TypeMeaning.{qualified_meaning}
use Rattle.gdmo_types.specs.FieldFaults.{field_mention}
use Rattle.gdmo_types.specs.RoleTargets.{MeansNumber}
use Rattle.gdmo_types.proofs.FieldLaws.{fields_in_role, no_type_noted, on_ok_by}
use Rattle.gdmo_types.proofs.notification_fields.note_of_type.Goals as goal

pub returns-in_default-clause-noted : goal.returns-in_default-clause-noted
returns-in_default-clause-noted c = λ parts x is are at in_document fields.
    no_type_noted parts c.args.document c.args.information.now c.args.fields.now c.args.faults.now.first
    (subst (λ ms. IsNoType (qualified_meaning ms c.args.information.now)) is.are_modules c.in_default.ensures)

pub returns-clause-noted : goal.returns-clause-noted
returns-clause-noted c = on_ok_by c.note_each.result (λ noted parts x is are at in_document fields.
    let ms = module_terms_of parts in
    let name = c.args.information.now in
    let xs = c.args.linkage.now.templates.now in
    let lists = c.type_number.new.self.lists in
    let stay = c.type_number.ensures.stays ms are in
    let told = c.in_ok-whole.ensures.told ms (qualified_meaning ms name) are
    (subst (λ ts. IsCode ts c.in-Some.meaning (qualified_meaning ts name)) is.are_modules c.in-Some.ensures.1) in
    let numbered = subst (TellsNumber ms lists (qualified_meaning ms name)) c.in-Some-2.is told in
    let in_order = c.in_ok-attributes.ensures.in_order parts x is.are_found is.are_targets at in
    let each = fields_in_role (MeansNumber parts xs x.document) (body_term x.body) name c.args.fields.now
    c.in_ok-attributes.attributes.items fields in_order in
    noted parts name is stay.are_numbers numbered
    (subst (λ d. AreEach (MeansNumber parts xs d) (map field_mention c.args.fields.now) c.as_slice.result.now)
    in_document
    (subst (AreEach (MeansNumber parts xs x.document) (map field_mention c.args.fields.now))
    (sym c.as_slice.ensures.value) each))) c.note_each.ensures.noted
