-- No record so far has the identifier.
use Rattle.std.proofs.Common.{◌≡◌, drop}
use Rattle.std.specs.Prelude.{find}
use Rattle.term_model.specs.declared.actions.NoteRec.{NoteRec}
use Rattle.term_model.specs.Comparing.{is_same_oid}
use Rattle.cmip_requests.proofs.reports.find_notification.Given as goal

abbrev pub invariant-loop-notification : goal.invariant-loop-notification
invariant-loop-notification l =
    find (λ (of_notification : NoteRec). is_same_oid of_notification.id l.id) (drop l.notification-index l.records)
    ≡ find (λ (of_notification : NoteRec). is_same_oid of_notification.id l.id) l.records
