-- The closure compares the identifier of an attribute with the one that is looked for.
use Rattle.std.proofs.Common.{rules, sym}
use Rattle.std.specs.Cmp.Lexicographic.{slice_cmp}
use Rattle.std.specs.Ordering.{nat_cmp}
use Rattle.std.proofs.lemmas.Fn.{always_returns_same}
use Rattle.term_model.specs.declared.object.Attribute.{Attribute}
use Rattle.attribute_rules.proofs.PlaceLaws.{halves_find, halves_miss}
use Rattle.attribute_rules.proofs.places.halved_place.Goals as goal

pub returns-in-Ok-clause-place : goal.returns-in-Ok-clause-place
returns-in-Ok-clause-place c = λ rise.
    let id = c.args.id.now in
    let at = c.in-Ok.ensures.position (λ (x : Attribute). slice_cmp nat_cmp x.id id)
    (always_returns_same _ _ _ (λ a r f called. search rules)) in
    sym (halves_find c.args.attributes.now id c.in-Ok.place c.in-Ok.ensures.bound at rise)

pub returns-in-Err-clause-place : goal.returns-in-Err-clause-place
returns-in-Err-clause-place c = λ rise.
    let id = c.args.id.now in
    let parted = c.in-Err.ensures.position (λ (x : Attribute). slice_cmp nat_cmp x.id id)
    (always_returns_same _ _ _ (λ a r f called. search rules)) in
    sym (halves_miss c.args.attributes.now id c.in-Err.field-0 parted rise)
