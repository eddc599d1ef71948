-- What depends on types is noted first.
use Rattle.gdmo_names.proofs.NotingLaws.{both_noted}
use Rattle.label_laws.specs.AllFaults.{OfTypes, WithSections}
use Rattle.gdmo_resolve.proofs.resolving.resolve_known.Goals as goal

pub returns : goal.returns
returns c = λ ps k noted. c.resolve_names.ensures ps k
    (both_noted (WithSections ps) (OfTypes ps) noted (c.in_ok-note_types.ensures ps k))
