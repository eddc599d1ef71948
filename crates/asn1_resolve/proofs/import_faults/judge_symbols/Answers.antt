-- One more symbol.
use Rattle.asn1_names.specs.TermViews.{module_terms}
use Rattle.asn1_resolve.specs.AllFaults.{SymbolFaults}
use Rattle.asn1_resolve.proofs.FirstFaults.{any_none, plain_end, plain_step}
use Rattle.asn1_resolve.proofs.import_faults.judge_symbols.Goals as goal

pub loop-symbol-init : goal.loop-symbol-init
loop-symbol-init c = λ is there. any_none (SymbolFaults (module_terms c.args.tables.now) c.args.module_name.now)

pub loop-symbol-preserved : goal.loop-symbol-preserved
loop-symbol-preserved c = λ is there.
    plain_step (SymbolFaults (module_terms c.args.tables.now) c.args.module_name.now) c.args.symbols.now
    c.loop-symbol.symbol-index c.symbol-item.result c.loop-symbol-test.true c.symbol-item.is c.earlier-first.ensures
    (c.loop-symbol.invariant is there) (c.judge_symbol.ensures is there)

pub returns : goal.returns
returns c = λ is there.
    plain_end (SymbolFaults (module_terms c.args.tables.now) c.args.module_name.now) c.args.symbols.now
    c.loop-symbol.symbol-index c.loop-symbol-test.false (c.loop-symbol.invariant is there)
