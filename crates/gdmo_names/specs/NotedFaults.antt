-- NotedFaults: the faults that the code notes, as FirstLabelFault tells them (docs/PROFILE.md, section 12).
use Rattle.gdmo_names.specs.declared.first_fault.FaultKind.{FaultKind}
use Rattle.gdmo_names.specs.declared.first_fault.FaultKind.TheVariants as noted
use Rattle.gdmo_names.specs.declared.first_fault.LabelFault.{LabelFault as NotedFault}
use Rattle.gdmo_names.specs.FirstLabelFault.{LabelFault, IsNoLater}
use Rattle.gdmo_names.specs.FirstLabelFault.LabelFault.{LabelUnknown, KindWrong, LabelDouble, IdentifierDouble}

abbrev pub kind_of : FaultKind → LabelFault
kind_of noted.UnknownLabel = LabelUnknown
kind_of noted.WrongKind = KindWrong
kind_of noted.DoubleLabel = LabelDouble
kind_of noted.DoubleIdentifier = IdentifierDouble

-- one fault stands no later than another
abbrev pub IsNotLater : NotedFault → NotedFault → Type 0
IsNotLater x y = IsNoLater (kind_of x.kind) x.document x.token (kind_of y.kind) y.document y.token
