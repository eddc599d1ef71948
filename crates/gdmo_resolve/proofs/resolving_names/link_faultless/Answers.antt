-- The first fault, or none.
use Rattle.std.proofs.Common.{None, subst}
use Rattle.gdmo_names.specs.FaultSets.{Notes}
use Rattle.label_laws.specs.AllFaults.{AllFaults}
use Rattle.label_laws.proofs.UnionLaws.{first_noted, nothing_noted}
use Rattle.gdmo_resolve.proofs.ResolvingLaws.{fits}
use Rattle.gdmo_resolve.proofs.resolving_names.link_faultless.Goals as goal

pub returns-in-Some : goal.returns-in-Some
returns-in-Some c = λ ps k told names noted. c.refusal_of.ensures ps (first_noted ps c.in-Some.fault
    (fits ps c.args.known k) (subst (Notes (AllFaults ps) None) c.in-Some.is noted))

pub returns-in-None : goal.returns-in-None
returns-in-None c = λ ps k told names noted. c.link_all.ensures ps k
    (nothing_noted ps (subst (Notes (AllFaults ps) None) c.in-None.is noted)) told names
