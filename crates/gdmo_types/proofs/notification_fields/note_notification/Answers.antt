-- The fields of the notification.
use Rattle.std.proofs.Common.{sym}
use Rattle.std.proofs.Math.Path.{subst}
use Rattle.gdmo_names.specs.FaultSets.{AnyOf, Notes}
use Rattle.gdmo_names.specs.FoundViews.{body_term, found_view}
use Rattle.gdmo_types.specs.FieldFaults.{FieldFault}
use Rattle.gdmo_types.proofs.FieldLaws.{on_ok_by}
use Rattle.gdmo_types.proofs.TemplateFieldLaws.{notification_fields, template_noted}
use Rattle.gdmo_types.proofs.notification_fields.note_notification.Goals as goal

pub returns-clause-noted : goal.returns-clause-noted
returns-clause-noted c = on_ok_by c.note_of_type.result (λ noted parts x is are at in_document same.
    let name = c.in-Some.information.syntax in
    let fields = c.as_slice.result.now in
    let are_fields = notification_fields (body_term x.body) c.args.notification.now c.in-Some.information
    c.in-Some-fields.fields fields same c.in-Some.is c.in-Some-fields.is c.as_slice.ensures.value in
    template_noted parts (found_view x) name fields are_fields
    (subst (λ d. Notes (AnyOf (FieldFault parts d name) fields) c.args.faults.now.first
    c.note_of_type.new.faults.first) (sym in_document) (noted parts x is are at in_document are_fields)))
    c.note_of_type.ensures.noted
