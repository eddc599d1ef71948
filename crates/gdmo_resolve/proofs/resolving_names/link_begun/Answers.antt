-- What is noted of identifiers and of first names, one after the other.
use Rattle.std.proofs.Common.{subst, sym}
use Rattle.gdmo_names.proofs.NotingLaws.{both_noted}
use Rattle.first_name_arcs.specs.UnequalNames.{UnequalNames}
use Rattle.gdmo_identifiers.specs.IdentifierFaults.{FaultsOfIdentifiers}
use Rattle.gdmo_identifiers.specs.IdentifierTables.{TellAllOids}
use Rattle.label_laws.specs.AllFaults.{WithIdentifiers, WithModules}
use Rattle.gdmo_resolve.proofs.resolving_names.link_begun.Goals as goal

pub returns : goal.returns
returns c = λ ps k assigned known begun noted.
    let judged = c.in_ok-identifiers.ensures.is ps k.is_linkage.are_found.all assigned known k.are_read.whole in
    let told = c.in_ok-names.ensures ps k assigned (c.judge_templates.ensures.keeps ps known) begun in
    c.link_faultless.ensures ps k (subst (TellAllOids ps) (sym c.as_slice.ensures.value) judged.0) told.0
    (both_noted (WithIdentifiers ps) (UnequalNames ps)
    (both_noted (WithModules ps) (FaultsOfIdentifiers ps) noted judged.1) told.1)
