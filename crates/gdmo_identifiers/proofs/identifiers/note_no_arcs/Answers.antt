-- The arcs are an object identifier, or not.
use Rattle.std.proofs.Common.{subst}
use Rattle.gdmo_names.specs.FirstLabelFault.LabelFault.{KindWrong}
use Rattle.gdmo_names.proofs.NotingLaws.{one_not, one_there}
use Rattle.gdmo_identifiers.specs.IdentifierTables.{TellsIdentifier}
use Rattle.gdmo_identifiers.proofs.identifiers.note_no_arcs.Goals as goal

pub returns-in-Some : goal.returns-in-Some
returns-in-Some c = λ parts x told known.
    one_not KindWrong c.args.document c.args.brace.now.at c.args.faults.now.first
    (λ h. h.bad _ (subst (TellsIdentifier parts x) c.in-Some.is told))

pub returns-in-None : goal.returns-in-None
returns-in-None c = λ parts x told known.
    one_there (record { known = known; bad = subst (TellsIdentifier parts x) c.in-None.is told }) c.note.ensures
