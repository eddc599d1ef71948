-- A component, and none.
use Rattle.std.proofs.Common.{◌∙◌, ap, refl, sym}
use Rattle.std.proofs.lemmas.Bool.{ltb-false, ltb-true}
use Rattle.std.proofs.lemmas.Option.{slice_get_past, slice_get_read}
use Rattle.asn1_types.specs.BuiltSyntaxes.{component_member}
use Rattle.type_numbers.specs.PlacedTerms.{nth_member}
use Rattle.type_numbers.proofs.MemberTextLaws.{member_past, member_there}
use Rattle.type_numbers.proofs.type_texts.component_text.Goals as goal

pub returns-in-Some-get : goal.returns-in-Some-get
returns-in-Some-get c = λ word.
    let at = c.in-Some-get.ensures.lookup in
    let xs = c.in-Some.components.now in
    let place = c.args.place in
    sym (ap (λ rows. nth_member rows place) (c.in-Some.ensures word).1 ∙
    member_there component_member xs place c.in-Some-get.component.now
    (slice_get_read xs _ place c.in-Some-get.component.now refl (ltb-true _ _ (sym at.0)) at.1))

pub returns-in-None-get : goal.returns-in-None-get
returns-in-None-get c = λ word.
    let xs = c.in-Some.components.now in
    let place = c.args.place in
    sym (ap (λ rows. nth_member rows place) (c.in-Some.ensures word).1 ∙ member_past component_member xs place
    (slice_get_past xs place (ltb-false _ _ (sym c.in-None-get.ensures.lookup.0))))
