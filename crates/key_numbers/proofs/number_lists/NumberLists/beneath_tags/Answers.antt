-- What stands beneath tags.
use Rattle.key_numbers.proofs.QueryLaws.{beneath_end, beneath_leaf, beneath_more}
use Rattle.key_numbers.proofs.number_lists.NumberLists.beneath_tags.Goals as goal

pub returns-then-form-ne-TAGGED_FORM : goal.returns-then-form-ne-TAGGED_FORM
returns-then-form-ne-TAGGED_FORM c = beneath_end c.args.self.now c.args.number c.tags.at
    (c.in-Some.form, c.in-Some.field-0-1, c.in-Some.of) c.tags.invariant c.in-Some.ensures.told
    c.if-form-ne-TAGGED_FORM.true

pub tags-preserved : goal.tags-preserved
tags-preserved c = beneath_more c.args.self.now c.args.number c.tags.at
    (c.in-Some.form, c.in-Some.field-0-1, c.in-Some.of) c.tags.invariant c.in-Some.ensures.told
    c.if-form-ne-TAGGED_FORM.false

pub returns-in-None : goal.returns-in-None
returns-in-None c = beneath_leaf c.args.self.now c.args.number c.tags.at c.tags.invariant c.in-None.ensures.told
