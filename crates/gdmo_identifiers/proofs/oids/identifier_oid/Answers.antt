-- The object identifier of the list.
use Rattle.std.proofs.Common.{subst}
use Rattle.asn1_numbers.proofs.LeadingLaws.{if_ok_by}
use Rattle.identifier_arcs.specs.KnownArcs.{TellsArcs}
use Rattle.gdmo_identifiers.proofs.ArcLaws.{identifier_told}
use Rattle.gdmo_identifiers.proofs.oids.identifier_oid.Goals as goal

pub returns-in-Some : goal.returns-in-Some
returns-in-Some c = if_ok_by c.list_oid.result (λ told tells parts x t.
    identifier_told parts c.args.lists.now x c.in-Some.list told
    (subst (TellsArcs parts c.args.lists.now x) c.in-Some.is t) tells) c.list_oid.ensures
