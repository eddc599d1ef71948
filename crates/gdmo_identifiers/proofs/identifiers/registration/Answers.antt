-- A list is told, or none.
use Rattle.std.proofs.Common.{subst}
use Rattle.gdmo_names.specs.FoundViews.{found_view}
use Rattle.gdmo_identifiers.specs.IdentifierTables.{TellsRegistered}
use Rattle.gdmo_identifiers.proofs.TemplateLaws.{unlisted}
use Rattle.gdmo_identifiers.proofs.identifiers.registration.Goals as goal

pub returns-in-Some : goal.returns-in-Some
returns-in-Some c = λ parts row own listed told is.
    c.registered_if.ensures parts row own
    (subst (TellsRegistered parts row (found_view c.args.found.now)) c.in-Some.is listed) told is

pub returns-in-None : goal.returns-in-None
returns-in-None c = λ parts row own listed told is.
    unlisted parts row (found_view c.args.found.now)
    (subst (TellsRegistered parts row (found_view c.args.found.now)) c.in-None.is listed)
