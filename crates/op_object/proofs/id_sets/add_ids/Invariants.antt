-- What the identifiers so far added.
use Rattle.std.proofs.Common.{take}
use Rattle.term_model.specs.PresentPackages.{is_among}
use Rattle.op_object.specs.IdSets.{Adds}
use Rattle.op_object.proofs.id_sets.add_ids.Given as goal

abbrev pub invariant-loop-id : goal.invariant-loop-id
invariant-loop-id l = Adds (is_among (take l.id-index l.added)) l.fn.ids l.ids
