-- The parts that are left.
use Rattle.key_numbers.proofs.NameLaws.{parts_cut, parts_found, parts_more, parts_past}
use Rattle.key_numbers.proofs.number_lists.NumberLists.part_called.Goals as goal

pub returns-in_default : goal.returns-in_default
returns-in_default c = parts_past c.args.self.now c.args.called c.args.parts c.parts.at c.parts.invariant
    c.in_default.ensures.told

pub returns-in_default-two : goal.returns-in_default-two
returns-in_default-two c = parts_cut c.args.self.now c.args.called c.args.parts c.parts.at
    (c.in-Some.field-0-0, c.in-Some.one, c.in-Some.other) c.parts.invariant c.in-Some.ensures.told
    c.in_default-two.ensures.told

pub returns-then-one-called : goal.returns-then-one-called
returns-then-one-called c = parts_found c.args.self.now c.args.called c.args.parts c.parts.at
    (c.in-Some.field-0-0, c.in-Some.one, c.in-Some.other)
    (c.in-Some-two.field-0-0, c.in-Some-two.of, c.in-Some-two.rest) c.has_each_once.ensures c.parts.invariant
    c.in-Some.ensures.told c.in-Some-two.ensures.told c.if-one-called.true

pub parts-preserved : goal.parts-preserved
parts-preserved c = parts_more c.args.self.now c.args.called c.args.parts c.parts.at
    (c.in-Some.field-0-0, c.in-Some.one, c.in-Some.other)
    (c.in-Some-two.field-0-0, c.in-Some-two.of, c.in-Some-two.rest) c.has_each_once.ensures c.parts.invariant
    c.in-Some.ensures.told c.in-Some-two.ensures.told c.if-one-called.false
