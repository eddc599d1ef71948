-- INTEGER, under any tags.
use Rattle.key_numbers.proofs.QueryLaws.{integer_told, no_integer_told}
use Rattle.key_numbers.proofs.number_lists.NumberLists.is_integer.Goals as goal

pub returns-in-Some : goal.returns-in-Some
returns-in-Some c = λ key is. integer_told c.args.self.now c.beneath_tags-at.result
    (c.in-Some.form, c.in-Some.field-0-1, c.in-Some.field-0-2) key (c.beneath_tags-at.ensures key is)
    c.in-Some.ensures.told

pub returns-in-None : goal.returns-in-None
returns-in-None c = λ key is. no_integer_told c.args.self.now c.beneath_tags-at.result key
    (c.beneath_tags-at.ensures key is) c.in-None.ensures.told
