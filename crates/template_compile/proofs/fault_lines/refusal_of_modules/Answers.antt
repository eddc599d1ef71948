use Rattle.template_compile.specs.DocumentFaults.IsModuleFault.{unknown_type, unknown_module, cyclic_type}
use Rattle.template_compile.specs.DocumentFaults.IsModuleFault.{unsupported, ambiguous_tags}
use Rattle.template_compile.proofs.FaultLaws.{module_told}
use Rattle.template_compile.proofs.fault_lines.refusal_of_modules.Goals as goal

pub returns-in-UnknownType : goal.returns-in-UnknownType
returns-in-UnknownType c = module_told c.args.documents.now c.args.parts.now c.in-UnknownType.document
    c.in-UnknownType.token c.in-UnknownType.is unknown_type c.fault_at.ensures

pub returns-in-UnknownModule : goal.returns-in-UnknownModule
returns-in-UnknownModule c = module_told c.args.documents.now c.args.parts.now c.in-UnknownModule.document
    c.in-UnknownModule.token c.in-UnknownModule.is unknown_module c.fault_at-in-UnknownModule.ensures

pub returns-in-CyclicType : goal.returns-in-CyclicType
returns-in-CyclicType c = module_told c.args.documents.now c.args.parts.now c.in-CyclicType.document
    c.in-CyclicType.token c.in-CyclicType.is cyclic_type c.fault_at-in-CyclicType.ensures

pub returns-in-Unsupported : goal.returns-in-Unsupported
returns-in-Unsupported c = module_told c.args.documents.now c.args.parts.now c.in-Unsupported.document
    c.in-Unsupported.token c.in-Unsupported.is unsupported c.fault_at-in-Unsupported.ensures

pub returns-in-AmbiguousTags : goal.returns-in-AmbiguousTags
returns-in-AmbiguousTags c = module_told c.args.documents.now c.args.parts.now c.in-AmbiguousTags.document
    c.in-AmbiguousTags.token c.in-AmbiguousTags.is ambiguous_tags c.fault_at-in-AmbiguousTags.ensures
