use Rattle.std.proofs.Common.{rules, ◌≡◌, sym, ◌∙◌}
use Rattle.asn1_leaf_values.proofs.NumberLaws.{number_none, number_some}
use Rattle.asn1_leaf_values.proofs.numbers.read_number.Goals as goal

pub returns-in-None : goal.returns-in-None
returns-in-None c = sym (number_none c.args.minus c.args.digits.now c.in-None.ensures.none)

pub returns-in-Some : goal.returns-in-Some
returns-in-Some c =
    c.signed.ensures ∙ sym (number_some c.args.minus c.args.digits.now c.in-Some.number c.in-Some.ensures.found)
