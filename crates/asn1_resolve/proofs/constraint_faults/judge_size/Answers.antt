-- Sizes that stand.
use Rattle.std.proofs.Common.{List, Option, map, option_map, sym}
use Rattle.std.specs.declared.alloc.Global.{Global}
use Rattle.std.specs.declared.vec.Vec.{Vec}
use Rattle.std.proofs.Math.Path.{subst}
use Rattle.asn1_values_syntax.specs.declared.constraint.Range.{Range}
use Rattle.asn1_names.specs.TermViews.{module_terms, range_term, range_terms}
use Rattle.asn1_resolve.specs.FaultSets.{AnyOf, In, IsFirstOf}
use Rattle.asn1_resolve.specs.TypeFaults.{RangeFaults, SizeFaults}
use Rattle.asn1_resolve.proofs.constraint_faults.judge_size.Goals as goal

pub returns-in-Some : goal.returns-in-Some
returns-in-Some c = λ of names.
    let ms = module_terms c.args.numbers.now in
    subst (λ (x : Option (Vec Range Global)). IsFirstOf (In c.args.home.document (SizeFaults ms c.args.home.module of
    (option_map range_terms x))) c.judge_ranges.result) (sym c.in-Some.is)
    (subst (λ (xs : List Range). IsFirstOf (In c.args.home.document (AnyOf (RangeFaults ms c.args.home.module of)
    (map range_term xs))) c.judge_ranges.result) c.as_slice.ensures.value (c.judge_ranges.ensures of names))
