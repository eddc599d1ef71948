use Rattle.std.proofs.Common.{rules, ◌≡◌, sym, ◌∙◌, arith}
use Rattle.asn1_leaf_values.proofs.NumberLaws.{arc_none, arc_found, arc_great}
use Rattle.asn1_leaf_values.proofs.numbers.read_arc_number.Goals as goal

pub returns-then-number-lt-PAST_ARC : goal.returns-then-number-lt-PAST_ARC
returns-then-number-lt-PAST_ARC c =
    sym (arc_found c.args.digits.now c.in-Some.number c.in-Some.ensures.found (omega arith))

pub returns-in-None : goal.returns-in-None
returns-in-None c = sym (arc_none c.args.digits.now c.in-None.ensures.none)

pub returns-else-number-lt-PAST_ARC : goal.returns-else-number-lt-PAST_ARC
returns-else-number-lt-PAST_ARC c =
    sym (arc_great c.args.digits.now c.in-Some.number c.in-Some.ensures.found (omega arith))
