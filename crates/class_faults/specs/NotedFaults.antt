-- NotedFaults: the faults that the code notes, as FirstClassFault tells them, and what a refusal tells (docs/PROFILE.md,
-- section 18).
use Rattle.std.specs.Prelude.{List}
use Rattle.asn1_names.specs.ModuleTerms.{ModuleTerm}
use Rattle.linked_parts.specs.declared.linked.Linked.{Linked}
use Rattle.class_faults.specs.declared.first_fault.ClassFault.{ClassFault as NotedFault}
use Rattle.class_faults.specs.declared.first_fault.FaultKind.{FaultKind}
use Rattle.class_faults.specs.declared.first_fault.FaultKind.TheVariants as noted
use Rattle.class_faults.specs.declared.refusal.ClassRefusal.{ClassRefusal}
use Rattle.class_faults.specs.declared.refusal.ClassRefusal.TheVariants as refusals
use Rattle.class_faults.specs.FirstClassFault.{ClassFault, IsFirstFault, IsNoLater}
use Rattle.class_faults.specs.FirstClassFault.ClassFault.{ClassCyclic, DefaultUnequal, PermittedEmpty, SetMissing}
use Rattle.class_faults.specs.FirstClassFault.ClassFault.{ValueBad}

abbrev pub kind_of : FaultKind → ClassFault
kind_of noted.CyclicClass = ClassCyclic
kind_of noted.UnequalDefault = DefaultUnequal
kind_of noted.EmptyPermitted = PermittedEmpty
kind_of noted.NotSetValued = SetMissing
kind_of noted.BadValue = ValueBad

-- one fault stands no later than another
abbrev pub IsNotLater : NotedFault → NotedFault → Type 0
IsNotLater x y = IsNoLater (kind_of x.kind) x.document x.token (kind_of y.kind) y.document y.token

-- a refusal tells the first fault; for want of memory it tells nothing
abbrev pub TellsFirstFault : List ModuleTerm → Linked → ClassRefusal → Type 0
TellsFirstFault ms linked (refusals.CyclicClass document token) = IsFirstFault ms linked ClassCyclic document token
TellsFirstFault ms linked (refusals.UnequalDefault document token) = IsFirstFault ms linked DefaultUnequal document token
TellsFirstFault ms linked (refusals.EmptyPermitted document token) = IsFirstFault ms linked PermittedEmpty document token
TellsFirstFault ms linked (refusals.NotSetValued document token) = IsFirstFault ms linked SetMissing document token
TellsFirstFault ms linked (refusals.BadValue document token) = IsFirstFault ms linked ValueBad document token
TellsFirstFault ms linked refusals.Memory = Unit {0}
