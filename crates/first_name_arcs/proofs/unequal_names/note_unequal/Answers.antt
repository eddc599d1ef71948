-- What the sentence says of the arcs that are given.
use Rattle.std.proofs.Common.{subst}
use Rattle.asn1_numbers.proofs.TargetLaws.{ok_by}
use Rattle.gdmo_names.specs.FaultSets.{Notes}
use Rattle.gdmo_types.specs.PlaceFaults.{AtPlaces}
use Rattle.first_name_arcs.specs.GivenArcs.{UnequalBefore}
use Rattle.first_name_arcs.proofs.UnequalLaws.{unequal_noted}
use Rattle.first_name_arcs.proofs.unequal_names.note_unequal.Goals as goal

pub returns : goal.returns
returns c = ok_by c.note_unequal_given.result (λ noted parts has are known whole begun.
    unequal_noted parts c.args.known.now.numbers.lists c.has_each_once.ensures c.args.definers.now
    c.in_ok-given.given.items are (c.in_ok-given.ensures parts has known whole begun are)
    (subst (λ xs. Notes (AtPlaces (UnequalBefore xs) xs) c.args.faults.now.first c.note_unequal_given.new.faults.first)
    c.as_slice.ensures.value noted)) c.note_unequal_given.ensures
