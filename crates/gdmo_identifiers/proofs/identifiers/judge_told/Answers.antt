-- The identifiers one by one, and those that are registered twice.
use Rattle.std.proofs.Common.{subst, sym}
use Rattle.gdmo_names.proofs.NotingLaws.{both_noted}
use Rattle.gdmo_identifiers.specs.IdentifierFaults.{DoubleIdentifiers, FaultsOfRegistrations}
use Rattle.gdmo_identifiers.specs.IdentifierTables.{TellAllOids}
use Rattle.gdmo_identifiers.proofs.identifiers.judge_told.Goals as goal

pub returns : goal.returns
returns c = λ parts all are listed.
    let r = c.in_ok-identifiers.ensures parts all are listed in (
      r.0,
      both_noted (FaultsOfRegistrations parts) (DoubleIdentifiers parts) r.1
          (c.in_ok-note_registered.ensures parts all listed
          (subst (TellAllOids parts) (sym c.as_slice.ensures.value) r.0)),
    )
