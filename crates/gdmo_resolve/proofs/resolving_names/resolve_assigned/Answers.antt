-- With which names something begins, what is noted of modules, and the rest.
use Rattle.std.proofs.Common.{subst, sym}
use Rattle.gdmo_names.proofs.NotingLaws.{both_noted}
use Rattle.first_name_arcs.specs.BegunFirst.{AreBegun}
use Rattle.gdmo_first_names.specs.ReadModules.{HasModules}
use Rattle.gdmo_identifiers.specs.IdentifierFaults.{FaultsOfModules}
use Rattle.label_laws.specs.AllFaults.{WithTypes}
use Rattle.gdmo_resolve.proofs.resolving_names.resolve_assigned.Goals as goal

pub returns : goal.returns
returns c = λ ps k assigned noted.
    c.link_begun.ensures ps k assigned (c.in_ok-arcs.ensures.known ps k.has_modules assigned)
    (subst (AreBegun ps) (sym c.as_slice-2.ensures.value) (c.in_ok-begun.ensures ps k assigned))
    (both_noted (WithTypes ps) (FaultsOfModules ps) noted (c.judge_modules.ensures ps (subst (HasModules ps) (sym c.as_slice.ensures.value) k.reads_modules) assigned))
