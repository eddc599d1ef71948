-- A module that isn't there, and one that is.
use Rattle.std.proofs.Common.{◌≡◌, ◌∙◌, List, Some, ap, sym}
use Rattle.std.proofs.Math.Path.{subst}
use Rattle.token_grammar.specs.declared.token.Token.{Token}
use Rattle.asn1_names.specs.CodeMeanings.{module_meant}
use Rattle.asn1_names.specs.NameMeaning.{module_meaning}
use Rattle.asn1_names.specs.NameMeaning.ModuleMeaning.{NoModule}
use Rattle.asn1_names.specs.TermViews.{import_term, module_terms}
use Rattle.asn1_resolve.specs.AllFaults.{ImportFaults, SymbolFaults}
use Rattle.asn1_resolve.specs.FaultSets.{AnyOf, In, IsFirstOf}
use Rattle.asn1_resolve.proofs.ImportLaws.{import_no_module, import_symbols}
use Rattle.asn1_resolve.proofs.import_faults.judge_import.Goals as goal

pub returns-in-Nothing : goal.returns-in-Nothing
returns-in-Nothing c =
    let ms = module_terms c.args.tables.now in
    let meant = c.module_meaning-from.ensures ∙ ap (module_meaning ms) c.as_slice.ensures in
    subst (λ x. IsFirstOf (In c.args.home.document (ImportFaults ms (import_term c.args.group.now))) (Some x))
    (sym c.fault_at.ensures)
    (import_no_module ms c.args.home.document (import_term c.args.group.now)
    (sym meant ∙ ap module_meant c.in-Nothing.is))

pub returns-in-Standard : goal.returns-in-Standard
returns-in-Standard c =
    let ms = module_terms c.args.tables.now in
    let meant = c.module_meaning-from.ensures ∙ ap (module_meaning ms) c.as_slice.ensures in
    let there : module_meant c.module_meaning-from.result ≡ NoModule → ⊥ =
    λ h. let e = sym (ap module_meant c.in-Standard.is) ∙ h in absurd (cc) in
    import_symbols ms c.args.home.document (import_term c.args.group.now) c.judge_symbols.result
    (λ h. there (meant ∙ h))
    (subst (λ (xs : List Token). IsFirstOf (In c.args.home.document (AnyOf
    (SymbolFaults ms c.args.group.now.module_name) xs)) c.judge_symbols.result) c.as_slice-symbols.ensures.value
    (c.judge_symbols.ensures meant there))

pub returns-in-At : goal.returns-in-At
returns-in-At c =
    let ms = module_terms c.args.tables.now in
    let meant = c.module_meaning-from.ensures ∙ ap (module_meaning ms) c.as_slice.ensures in
    let there : module_meant c.module_meaning-from.result ≡ NoModule → ⊥ =
    λ h. let e = sym (ap module_meant c.in-At.is) ∙ h in absurd (cc) in
    import_symbols ms c.args.home.document (import_term c.args.group.now) c.judge_symbols-in-At.result
    (λ h. there (meant ∙ h))
    (subst (λ (xs : List Token). IsFirstOf (In c.args.home.document (AnyOf
    (SymbolFaults ms c.args.group.now.module_name) xs)) c.judge_symbols-in-At.result) c.as_slice-symbols.ensures.value
    (c.judge_symbols-in-At.ensures meant there))
