-- One constraint.
use Rattle.std.proofs.Common.{sym}
use Rattle.std.proofs.Math.Path.{subst}
use Rattle.std.proofs.lemmas.Result.{IfOk-weaker}
use Rattle.asn1_names.specs.Constraining.{AreRanges}
use Rattle.asn1_names.specs.SaidNumbers.{AllSayBounds}
use Rattle.asn1_names.specs.TermViews.{limit_term, module_terms}
use Rattle.asn1_types.proofs.ConstrainingLaws.{one_constraint}
use Rattle.asn1_types.proofs.constraining.constrained_by_one.Goals as goal

pub returns : goal.returns
returns c =
    let ms = module_terms c.args.numbers.now in
    let pairs = c.in_ok-pairs.pairs.items in
    IfOk-weaker c.narrow.result _ _ (λ left narrows of told.
    one_constraint ms c.args.home of (limit_term c.args.constraint.now) pairs c.args.syntax left
    (subst (λ rs. AllSayBounds ms c.args.home of rs → AreRanges ms c.args.home of rs pairs) (sym c.ranges_of.ensures)
    (c.in_ok-pairs.ensures of told)) narrows) c.narrow.ensures
