-- None stands at the place, at no place so far, or at none.
use Rattle.std.proofs.Common.{None, arith, refl}
use Rattle.std.proofs.lemmas.Bool.{false≢true}
use Rattle.std.proofs.lemmas.Option.{slice_get_within}
use Rattle.class_graphs.proofs.EmptyLaws.{none_more, none_there}
use Rattle.class_graphs.proofs.role_links.has_none.Goals as goal

pub loop-number-preserved : goal.loop-number-preserved
loop-number-preserved c =
    none_more c.args.numbers.now c.loop-number.number-index c.if-is_none.ensures c.loop-number.invariant

pub returns-then-is_none : goal.returns-then-is_none
returns-then-is_none c = (
  λ e. (
    c.loop-number.number-index,
    none_there c.args.numbers.now c.loop-number.number-index c.loop-number-test.true
        c.if-is_none.ensures,
  ),
  λ h. refl,
)

pub returns : goal.returns
returns c = (
  λ e. absurd (false≢true e),
  λ h. absurd (c.loop-number.invariant h.0 (let w = slice_get_within c.args.numbers.now h.0 None h.1 in
      let t = c.loop-number-test.false in omega arith) h.1),
)
