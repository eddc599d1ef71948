-- The information of the record that is found.
use Rattle.std.proofs.Common.{◌≡◌, ◌∙◌, ap, rules}
use Rattle.std.specs.Prelude.{option_and_then}
use Rattle.term_model.specs.declared.actions.NoteRec.{NoteRec}
use Rattle.cmip_requests.proofs.reports.notification_syntax.Goals as goal

pub returns-in-Global : goal.returns-in-Global
returns-in-Global c =
    let whole : c.as_slice.result.now ≡ c.args.records.now = search rules in
    let found = rw whole at c.find_notification.ensures in
    let read = c.information.ensures
    ∙ ap (option_and_then (λ (of_notification : NoteRec). of_notification.information)) found in
    rw (c.in-Global.is) read
