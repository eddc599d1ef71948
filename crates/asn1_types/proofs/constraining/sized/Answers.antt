-- The sizes of a list.
use Rattle.std.proofs.Common.{map}
use Rattle.std.proofs.Math.Path.{subst}
use Rattle.std.proofs.lemmas.Result.{IfOk-weaker}
use Rattle.asn1_names.specs.Constraining.{AreRanges}
use Rattle.asn1_names.specs.SaidNumbers.{AllSayBounds}
use Rattle.asn1_names.specs.TermViews.{module_terms, range_term}
use Rattle.asn1_types.proofs.ConstrainingLaws.{no_sizes, stated_sizes}
use Rattle.asn1_types.proofs.constraining.sized.Goals as goal

pub returns-in-None : goal.returns-in-None
returns-in-None c = λ of unnamed. no_sizes (module_terms c.args.numbers.now) c.args.home of c.args.size.now
    c.args.syntax
    c.in-None.is

pub returns-in_ok-pairs-in-Some : goal.returns-in_ok-pairs-in-Some
returns-in_ok-pairs-in-Some c =
    let ms = module_terms c.args.numbers.now in
    IfOk-weaker c.narrow.result _ _ (λ left narrows of unnamed.
    stated_sizes ms c.args.home of c.args.size.now c.in-Some.ranges c.in_ok-pairs-in-Some.pairs.items c.args.syntax left
    c.in-Some.is
    (subst (λ rs. AllSayBounds ms c.args.home of (map range_term rs) →
    AreRanges ms c.args.home of (map range_term rs) c.in_ok-pairs-in-Some.pairs.items) c.as_slice.ensures.value
    (c.in_ok-pairs-in-Some.ensures of unnamed)) narrows) c.narrow.ensures
