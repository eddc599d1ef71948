-- The names that are left.
use Rattle.key_numbers.proofs.NameLaws.{names_cut, names_found, names_more, names_past}
use Rattle.key_numbers.proofs.number_lists.NumberLists.has_name.Goals as goal

pub returns-in_default : goal.returns-in_default
returns-in_default c = names_past c.args.self.now c.args.called c.args.names c.names.at c.names.invariant
    c.in_default.ensures.told

pub returns-then-one-called : goal.returns-then-one-called
returns-then-one-called c = names_found c.args.self.now c.args.called c.args.names c.names.at
    (c.in-Some.field-0-0, c.in-Some.one, c.in-Some.other) c.has_each_once.ensures c.names.invariant
    c.in-Some.ensures.told c.if-one-called.true

pub returns-in_default-two : goal.returns-in_default-two
returns-in_default-two c = names_cut c.args.self.now c.args.called c.args.names c.names.at
    (c.in-Some.field-0-0, c.in-Some.one, c.in-Some.other) c.names.invariant c.in-Some.ensures.told
    c.in_default-two.ensures.told

pub names-preserved : goal.names-preserved
names-preserved c = names_more c.args.self.now c.args.called c.args.names c.names.at
    (c.in-Some.field-0-0, c.in-Some.one, c.in-Some.other)
    (c.in-Some-two.field-0-0, c.in-Some-two.field-0-1, c.in-Some-two.rest) c.has_each_once.ensures c.names.invariant
    c.in-Some.ensures.told c.in-Some-two.ensures.told c.if-one-called.false
