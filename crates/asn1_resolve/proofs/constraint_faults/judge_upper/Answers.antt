-- A bound that stands.
use Rattle.std.proofs.Common.{Option, option_map, sym}
use Rattle.std.proofs.Math.Path.{subst}
use Rattle.asn1_values_syntax.specs.declared.numbers.Bound.{Bound}
use Rattle.asn1_names.specs.TermViews.{bound_term, module_terms}
use Rattle.asn1_resolve.specs.FaultSets.{In, IsFirstOf}
use Rattle.asn1_resolve.specs.TypeFaults.{UpperFaults}
use Rattle.asn1_resolve.proofs.constraint_faults.judge_upper.Goals as goal

pub returns-in-Some : goal.returns-in-Some
returns-in-Some c = λ of names.
    subst (λ (u : Option Bound). IsFirstOf (In c.args.home.document (UpperFaults (module_terms c.args.numbers.now)
    c.args.home.module of (option_map bound_term u))) c.judge_bound.result) (sym c.in-Some.is)
    (c.judge_bound.ensures of names)
