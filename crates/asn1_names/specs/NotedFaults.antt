-- NotedFaults: the faults that the code notes, as FirstModuleFault tells them (docs/PROFILE.md, section 11).
use Rattle.asn1_names.specs.declared.first_fault.FaultKind.{FaultKind as NotedKind}
use Rattle.asn1_names.specs.declared.first_fault.FaultKind.TheVariants as noted
use Rattle.asn1_names.specs.declared.first_fault.ModuleFault.{ModuleFault}
use Rattle.asn1_names.specs.declared.refusal.UnsupportedKind.TheVariants as unsupported
use Rattle.asn1_names.specs.FirstModuleFault.{FaultKind, IsNoLater}
use Rattle.asn1_names.specs.FirstModuleFault.FaultKind.{TypeUnknown, ModuleUnknown, TypeCyclic, NotSupported}
use Rattle.asn1_names.specs.FirstModuleFault.FaultKind.{TagsAmbiguous}

abbrev pub kind_of : NotedKind → FaultKind
kind_of noted.UnknownType = TypeUnknown
kind_of noted.UnknownModule = ModuleUnknown
kind_of noted.CyclicType = TypeCyclic
kind_of noted.TypeWord = NotSupported unsupported.TypeWord
kind_of noted.TooManyNodes = NotSupported unsupported.TooManyNodes
kind_of noted.TagNumber = NotSupported unsupported.TagNumber
kind_of noted.WideNumber = NotSupported unsupported.WideNumber
kind_of noted.MisplacedConstraint = NotSupported unsupported.MisplacedConstraint
kind_of noted.AmbiguousTags = TagsAmbiguous

-- one fault stands no later than another
abbrev pub IsNotLater : ModuleFault → ModuleFault → Type 0
IsNotLater x y = IsNoLater (kind_of x.kind) x.document x.token (kind_of y.kind) y.document y.token
