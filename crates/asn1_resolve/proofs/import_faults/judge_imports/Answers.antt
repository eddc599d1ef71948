-- The first import and the others.
use Rattle.std.proofs.Common.{List, Option, map, sym}
use Rattle.std.proofs.Math.Path.{subst}
use Rattle.asn1_syntax.specs.declared.module.ImportedSymbols.{ImportedSymbols}
use Rattle.asn1_syntax.specs.declared.module.Imports.{Imports}
use Rattle.asn1_names.specs.TermViews.{import_term, import_terms, module_terms}
use Rattle.asn1_resolve.specs.AllFaults.{ImportFaults}
use Rattle.asn1_resolve.specs.FaultSets.{AnyOf, In, IsFirstOf}
use Rattle.asn1_resolve.proofs.FirstFaults.{either_both}
use Rattle.asn1_resolve.proofs.import_faults.judge_imports.Goals as goal

pub returns-in-Some : goal.returns-in-Some
returns-in-Some c =
    let ms = module_terms c.args.tables.now in
    subst (λ (x : Option Imports). IsFirstOf (In c.args.home.document (AnyOf (ImportFaults ms) (import_terms x)))
    c.earlier.result) (sym c.in-Some.is)
    (either_both (ImportFaults ms (import_term c.in-Some.imports.first))
    (AnyOf (ImportFaults ms) (map import_term c.in-Some.imports.others.items)) c.earlier.ensures
    c.judge_import-own.ensures
    (subst (λ (xs : List ImportedSymbols). IsFirstOf (In c.args.home.document (AnyOf (ImportFaults ms)
    (map import_term xs))) c.judge_groups-others.result) c.as_slice.ensures.value c.judge_groups-others.ensures))
