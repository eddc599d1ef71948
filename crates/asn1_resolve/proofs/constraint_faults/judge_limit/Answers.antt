-- The bounds and the place.
use Rattle.std.proofs.Common.{List}
use Rattle.std.proofs.Math.Path.{subst}
use Rattle.asn1_names.specs.declared.refusal.UnsupportedKind.TheVariants.{MisplacedConstraint}
use Rattle.asn1_names.specs.Constraining.{limit_ranges}
use Rattle.asn1_names.specs.FirstModuleFault.FaultKind.{NotSupported}
use Rattle.asn1_names.specs.ModuleTerms.{RangeTerm}
use Rattle.asn1_names.specs.Occurrences.{bound_or_word, first_word}
use Rattle.asn1_names.specs.TermViews.{limit_term, module_terms, type_term}
use Rattle.asn1_resolve.specs.FaultSets.{AnyOf, In, IsFirstOf, OneFault}
use Rattle.asn1_resolve.specs.TypeFaults.{IsMisplaced, RangeFaults}
use Rattle.asn1_resolve.proofs.FirstFaults.{either_both}
use Rattle.asn1_resolve.proofs.constraint_faults.judge_limit.Goals as goal

pub returns : goal.returns
returns c = λ names finds.
    let ms = module_terms c.args.numbers.now in
    let of = type_term c.args.of.now in
    let limit = limit_term c.args.constraint.now in
    either_both (AnyOf (RangeFaults ms c.args.home.module of) (limit_ranges limit))
    (OneFault (IsMisplaced ms c.args.home.module of limit) (bound_or_word (limit_ranges limit) (first_word of)).at
    (NotSupported MisplacedConstraint)) c.earlier.ensures
    (subst (λ (xs : List RangeTerm). IsFirstOf (In c.args.home.document (AnyOf (RangeFaults ms c.args.home.module of)
    xs))
    c.judge_ranges-bounds.result) c.ranges_of.ensures (c.judge_ranges-bounds.ensures of names))
    (c.judge_place-place.ensures ms finds)
