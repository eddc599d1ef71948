-- The registrations that stand behind others of the same arcs.
use Rattle.std.proofs.Common.{List, Option, subst}
use Rattle.asn1_numbers.proofs.TargetLaws.{ok_by}
use Rattle.gdmo_names.specs.FaultSets.{AnyOf, Notes}
use Rattle.gdmo_identifiers.specs.declared.registrations.Registration.{Registration}
use Rattle.gdmo_identifiers.specs.Registrations.{LaterOf}
use Rattle.gdmo_identifiers.proofs.DoubleLaws.{doubles_noted}
use Rattle.gdmo_identifiers.proofs.identifiers.note_registered.Goals as goal

pub returns : goal.returns
returns c = ok_by c.note_doubles.result (λ noted parts all listed told.
    doubles_noted parts c.args.lists.now c.has_each_once.ensures c.in_ok-registered.registered.items
    (c.in_ok-registered.ensures parts c.args.lists.now all listed told)
    (subst (λ (xs : List (Option Registration)). Notes (AnyOf (LaterOf xs) xs) c.args.faults.now.first
    c.note_doubles.new.faults.first) c.as_slice.ensures.value noted)) c.note_doubles.ensures
