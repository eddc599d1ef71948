use Rattle.std.proofs.Common.{◌≡◌, take}
use Rattle.std.specs.Prelude.{◌≢◌}
use Rattle.asn1_names.specs.CodeMeanings.{module_meant}
use Rattle.asn1_names.specs.NameMeaning.{module_meaning}
use Rattle.asn1_names.specs.NameMeaning.ModuleMeaning.{NoModule}
use Rattle.asn1_names.specs.TermViews.{module_terms}
use Rattle.asn1_resolve.specs.AllFaults.{SymbolFaults}
use Rattle.asn1_resolve.specs.FaultSets.{AnyOf, In, IsFirstOf}
use Rattle.asn1_resolve.proofs.import_faults.judge_symbols.Given as goal

abbrev pub invariant-loop-symbol : goal.invariant-loop-symbol
invariant-loop-symbol l = module_meant l.from ≡ module_meaning (module_terms l.tables) l.module_name.text →
    module_meant l.from ≢ NoModule → IsFirstOf (In l.home.document (AnyOf
    (SymbolFaults (module_terms l.tables) l.module_name) (take l.symbol-index l.symbols))) l.first
