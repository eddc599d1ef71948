-- The errors so far and those of the rest are the whole; the sets have what stands in front.
use Rattle.std.proofs.Common.{◌≡◌, [], ◌++◌, List, drop}
use Rattle.std.specs.List.{list_any}
use Rattle.term_model.specs.declared.request.IdRef.{IdRef}
use Rattle.term_model.specs.ObjectGet.{is_same_id}
use Rattle.op_object.specs.GetSteps.{absent_errors}
use Rattle.op_object.specs.IdSets.{has_ref}
use Rattle.op_object.proofs.object_get.absent_errors.Given as goal

abbrev pub invariant-loop-id : goal.invariant-loop-id
invariant-loop-id l =
    (before : List IdRef)
    × (absent_errors l.held l.used [] l.asked
    ≡ l.errors.items ++ absent_errors l.held l.used before (drop l.id-index l.asked))
    × ((e : IdRef) → has_ref l.seen.globals l.seen.locals e
    ≡ list_any (λ (earlier : IdRef). is_same_id earlier e) before)
