-- The laws of identifiers say what was read, and that nothing else could be.
use Rattle.std.proofs.Common.{ap, ◌∙◌, sym}
use Rattle.term_values.specs.Oid.{oid_in}
use Rattle.term_values.proofs.OidLaws.{none_denoted, oid_read}
use Rattle.bind_apdus.proofs.bind_reading.read_oid.Goals as goal

pub returns-in-None : goal.returns-in-None
returns-in-None c = none_denoted c.args.contents.now (rw c.in-None.is at c.in_ok-read_oid_contents.ensures.none)

pub returns-in-Some : goal.returns-in-Some
returns-in-Some c =
    let spelt = rw c.in-Some.is at c.in_ok-read_oid_contents.ensures.found in
    sym (ap oid_in spelt ∙ oid_read c.in-Some.oid c.arcs-arcs.ensures.identifier c.arcs-arcs.ensures.numbers)
