-- proofs/resolving/resolve_modules/Answers.antt
-- The refusal, and what is known of nodes, are those of the facts, whose modules are the ones that were handed over.
use Rattle.std.proofs.Common.{◌∙◌, List, subst, sym}
use Rattle.asn1_syntax.specs.declared.module.Module.{Module}
use Rattle.asn1_names.specs.FirstModuleFault.{TellsFirstFault}
use Rattle.asn1_names.specs.TermViews.{module_terms}
use Rattle.asn1_types.specs.CountedTypes.{AreCounted}
use Rattle.asn1_resolve.specs.ModuleOrder.{AreInOrder}
use Rattle.asn1_resolve.specs.ToldFaults.{Judges}
use Rattle.asn1_resolve.proofs.resolving.resolve_modules.Goals as goal

pub returns-in-Some-clause-first : goal.returns-in-Some-clause-first
returns-in-Some-clause-first c =
    let same = c.in_ok-facts.ensures ∙ c.in_ok-numbers.ensures ∙ c.in_ok-new.ensures in
    let told = subst (Judges (module_terms c.in_ok-facts.facts)) c.in-Some.is c.in_ok-refusal.ensures.told in
    subst (λ (ms : List Module). AreInOrder (module_terms ms) → TellsFirstFault (module_terms ms) c.in-Some.refusal)
    same told.1

pub new-requires-in-None-clause-counted : goal.new-requires-in-None-clause-counted
new-requires-in-None-clause-counted c =
    subst (λ (ms : List Module). AreCounted (module_terms ms)) (sym c.into_numbers.ensures)
    c.in_ok-refusal.ensures.counted
