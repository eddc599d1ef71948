-- The number of what has a form.
use Rattle.std.proofs.Common.{ap, length, sym}
use Rattle.std.proofs.Math.Path.{subst}
use Rattle.key_numbers.specs.ListPlaces.{IsMadeOf}
use Rattle.key_numbers.proofs.ListLaws.{grows_pushed, is_pushed, place_pushed, told_in}
use Rattle.key_numbers.proofs.number_lists.NumberLists.number_of.Goals as goal

pub returns-in-Some-clause-is : goal.returns-in-Some-clause-is
returns-in-Some-clause-is c = told_in c.self.inside.row.items c.args.self.now c.self.inside.places
    (c.args.form, c.args.one, c.args.other) c.in-Some.place.now c.self.invariant c.self.view_is c.in-Some.ensures.value

pub invariant_of-self-in-Ok : goal.invariant_of-self-in-Ok
invariant_of-self-in-Ok c = place_pushed c.self.inside.row.items c.push.new.self.items c.self.inside.places
    c.insert.new.self (c.args.form, c.args.one, c.args.other) _ c.self.invariant
    (subst (λ r. IsMadeOf (length r) (c.args.form, c.args.one, c.args.other)) (sym c.self.view_is) c.requires)
    (sym c.in_default.ensures.value) c.in_ok-push.ensures.items (ap length c.as_slice-place.ensures.value)
    c.in-Ok.ensures.updates.0

pub returns-in-Ok-clause-grows : goal.returns-in-Ok-clause-grows
returns-in-Ok-clause-grows c = grows_pushed c.self.inside.row.items c.args.self.now c.push.new.self.items
    (c.args.form, c.args.one, c.args.other) c.self.view_is c.in_ok-push.ensures.items

pub returns-in-Ok-clause-is : goal.returns-in-Ok-clause-is
returns-in-Ok-clause-is c = is_pushed c.self.inside.row.items c.push.new.self.items
    (c.args.form, c.args.one, c.args.other) _ c.in_ok-push.ensures.items (ap length c.as_slice-place.ensures.value)
