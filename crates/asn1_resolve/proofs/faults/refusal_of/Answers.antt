-- The faults of names, whose sentences have several cases.
use Rattle.std.proofs.Math.Path.{subst}
use Rattle.asn1_names.specs.declared.first_fault.FaultKind.{FaultKind as NotedKind}
use Rattle.asn1_names.specs.FirstModuleFault.{HasFault}
use Rattle.asn1_names.specs.NotedFaults.{kind_of}
use Rattle.asn1_resolve.proofs.faults.refusal_of.Goals as goal

pub returns-in-UnknownType-clause-there : goal.returns-in-UnknownType-clause-there
returns-in-UnknownType-clause-there c = λ ms fault. subst (λ (k : NotedKind). HasFault ms (kind_of k)
    c.args.fault.document c.args.fault.token) c.in-UnknownType.is fault

pub returns-in-UnknownModule-clause-there : goal.returns-in-UnknownModule-clause-there
returns-in-UnknownModule-clause-there c = λ ms fault. subst (λ (k : NotedKind). HasFault ms (kind_of k)
    c.args.fault.document c.args.fault.token) c.in-UnknownModule.is fault
