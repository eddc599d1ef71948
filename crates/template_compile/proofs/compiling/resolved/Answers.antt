use Rattle.std.proofs.Common.{◌∙◌, List}
use Rattle.std.proofs.Math.Path.{subst}
use Rattle.asn1_names.specs.FirstModuleFault.{AreFaultless, TellsFirstFault}
use Rattle.asn1_names.specs.TermViews.{module_terms}
use Rattle.asn1_resolve.specs.ModuleOrder.{AreInOrder}
use Rattle.asn1_syntax.specs.declared.module.Module.{Module}
use Rattle.placing_laws.proofs.ModuleTypes.{types_in_order}
use Rattle.template_compile.proofs.compiling.resolved.Goals as goal

pub returns-in-Err-clause-cause : goal.returns-in-Err-clause-cause
returns-in-Err-clause-cause c =
    let refusal = c.in-Err.refusal in
    let said = c.requires.said in
    let ordered = types_in_order c.args.documents.now said.tokens said.units c.args.parts.now said.lexed said.read
    said.gathered in
    c.refusal_of_modules.ensures said
    (subst (λ (ms : List Module). AreInOrder (module_terms ms) → TellsFirstFault (module_terms ms) refusal)
    c.as_slice.ensures.value c.in-Err.ensures.first ordered)

pub closed-requires : goal.closed-requires
closed-requires c = record {
  resolved = record {
    said = c.requires.said;
    faultless = subst (λ (ms : List Module). AreFaultless (module_terms ms)) c.as_slice.ensures.value
        c.in-Ok.ensures.faultless;
  };
  modules = c.in-Ok.ensures.resolved ∙ c.as_slice.ensures.value;
}
