-- The least and the greatest number.
use Rattle.std.proofs.Common.{option_map}
use Rattle.asn1_names.specs.TermViews.{bound_term, module_terms}
use Rattle.asn1_resolve.specs.TypeFaults.{BoundFaults, UpperFaults}
use Rattle.asn1_resolve.proofs.FirstFaults.{either_both}
use Rattle.asn1_resolve.proofs.constraint_faults.judge_range.Goals as goal

pub returns : goal.returns
returns c = λ of names.
    either_both (BoundFaults (module_terms c.args.numbers.now) c.args.home.module of (bound_term
    c.args.range.now.lower))
    (UpperFaults (module_terms c.args.numbers.now) c.args.home.module of
    (option_map bound_term c.args.range.now.upper)) c.earlier.ensures (c.judge_bound-lower.ensures of names)
    (c.judge_upper-upper.ensures of names)
