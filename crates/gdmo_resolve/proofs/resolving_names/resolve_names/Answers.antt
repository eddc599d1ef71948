-- With the names that modules assign.
use Rattle.gdmo_resolve.proofs.resolving_names.resolve_names.Goals as goal

pub returns : goal.returns
returns c = λ ps k noted. c.resolve_assigned.ensures ps k (c.in_ok-assigned.ensures ps k.has_modules) noted
