-- ToldFaults: a refusal tells a fault that is there (docs/PROFILE.md, section 11).
use Rattle.std.specs.Prelude.{ℕ, List, Option, None, Some}
use Rattle.asn1_names.specs.declared.refusal.ModuleRefusal.{ModuleRefusal}
use Rattle.asn1_names.specs.declared.refusal.ModuleRefusal.TheVariants.{UnknownType, UnknownModule, CyclicType}
use Rattle.asn1_names.specs.declared.refusal.ModuleRefusal.TheVariants.{Unsupported, AmbiguousTags, Memory}
use Rattle.asn1_names.specs.FirstModuleFault.{AreFaultless, HasFault, TellsFirstFault}
use Rattle.asn1_names.specs.FirstModuleFault.FaultKind.{TypeUnknown, ModuleUnknown, TypeCyclic, NotSupported}
use Rattle.asn1_names.specs.FirstModuleFault.FaultKind.{TagsAmbiguous}
use Rattle.asn1_names.specs.ModuleTerms.{TypeTerm, ModuleTerm}
use Rattle.asn1_names.specs.CodeMeanings.{IsTypeOf}
use Rattle.asn1_names.specs.NodeCount.{HasNodes}
use Rattle.asn1_resolve.specs.ModuleOrder.{AreInOrder}

-- the fault that a refusal tells is there; for want of memory it tells nothing
abbrev pub TellsFault : List ModuleTerm → ModuleRefusal → Type 0
TellsFault ms (UnknownType document token) = HasFault ms TypeUnknown document token
TellsFault ms (UnknownModule document token) = HasFault ms ModuleUnknown document token
TellsFault ms (CyclicType document token) = HasFault ms TypeCyclic document token
TellsFault ms (Unsupported document token kind) = HasFault ms (NotSupported kind) document token
TellsFault ms (AmbiguousTags document token) = HasFault ms TagsAmbiguous document token
TellsFault ms Memory = Unit {0}

-- the refusal of modules, or none where nothing is wrong in them; in modules in order it tells the first fault
abbrev pub Judges : List ModuleTerm → Option ModuleRefusal → Type 0
Judges ms None = AreFaultless ms
Judges ms (Some refusal) = TellsFault ms refusal × (AreInOrder ms → TellsFirstFault ms refusal)

-- the type of the assignment with the number, where there is one, has a number of nodes
abbrev pub IsCounted : List ModuleTerm → ℕ → Type 0
IsCounted ms number = (m : ℕ) (of : TypeTerm) → IsTypeOf ms number m of → (n : ℕ) × HasNodes ms m of n
