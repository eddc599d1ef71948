-- One more number.
use Rattle.std.proofs.Math.Path.{subst}
use Rattle.asn1_names.specs.ModuleTerms.{NamedNumberTerm}
use Rattle.asn1_names.specs.TermViews.{bit_term, module_terms}
use Rattle.asn1_resolve.specs.FaultSets.{In, IsFirstOf}
use Rattle.asn1_resolve.specs.TypeFaults.{NumberFaults}
use Rattle.asn1_resolve.proofs.FirstFaults.{any_none, view_end, view_step}
use Rattle.asn1_resolve.proofs.number_faults.judge_bits.Goals as goal

pub loop-named-init : goal.loop-named-init
loop-named-init c =
    any_none (λ (x : NamedNumberTerm). NumberFaults (module_terms c.args.numbers.now) c.args.home.module x.number)

pub loop-named-preserved : goal.loop-named-preserved
loop-named-preserved c =
    view_step (λ (x : NamedNumberTerm). NumberFaults (module_terms c.args.numbers.now) c.args.home.module x.number)
    bit_term c.args.listed.now c.loop-named.named-index c.named-item.result c.loop-named-test.true c.named-item.is
    c.earlier-first.ensures c.loop-named.invariant
    (subst (λ n. IsFirstOf (In c.args.home.document (NumberFaults (module_terms c.args.numbers.now)
    c.args.home.module n)) c.judge_number.result) c.token_text.ensures c.judge_number.ensures)

pub returns : goal.returns
returns c =
    view_end (λ (x : NamedNumberTerm). NumberFaults (module_terms c.args.numbers.now) c.args.home.module x.number)
    bit_term c.args.listed.now c.loop-named.named-index c.loop-named-test.false c.loop-named.invariant
