-- No record so far has the identifier.
use Rattle.std.proofs.Common.{◌≡◌, drop}
use Rattle.std.specs.Prelude.{find}
use Rattle.term_model.specs.declared.actions.ActRec.{ActRec}
use Rattle.term_model.specs.Comparing.{is_same_oid}
use Rattle.cmip_requests.proofs.actions.find_action.Given as goal

abbrev pub invariant-loop-action : goal.invariant-loop-action
invariant-loop-action l = find (λ (of_action : ActRec). is_same_oid of_action.id l.id) (drop l.action-index l.records)
    ≡ find (λ (of_action : ActRec). is_same_oid of_action.id l.id) l.records
