-- What the identifiers so far added.
use Rattle.std.proofs.Common.{take}
use Rattle.term_model.specs.ObjectGet.{lists}
use Rattle.op_object.specs.IdSets.{Adds}
use Rattle.op_object.proofs.asked_ids.add_globals.Given as goal

abbrev pub invariant-loop-id : goal.invariant-loop-id
invariant-loop-id l = Adds (lists (take l.id-index l.added)) l.fn.ids l.ids
