-- An alternative, and none.
use Rattle.std.proofs.Common.{refl, sym}
use Rattle.std.proofs.lemmas.Bool.{ltb-false, ltb-true}
use Rattle.std.proofs.lemmas.Option.{slice_get_past, slice_get_read}
use Rattle.asn1_types.specs.BuiltSyntaxes.{alternative_member}
use Rattle.type_numbers.proofs.MemberTextLaws.{member_past, member_there}
use Rattle.type_numbers.proofs.type_texts.alternative_text.Goals as goal

pub returns-in-Some : goal.returns-in-Some
returns-in-Some c =
    let at = c.in-Some.ensures.lookup in
    let xs = c.args.alternatives.now in
    sym (member_there alternative_member xs c.args.place c.in-Some.alternative.now
    (slice_get_read xs _ c.args.place c.in-Some.alternative.now refl (ltb-true _ _ (sym at.0)) at.1))

pub returns-in-None : goal.returns-in-None
returns-in-None c =
    let xs = c.args.alternatives.now in
    sym (member_past alternative_member xs c.args.place
    (slice_get_past xs c.args.place (ltb-false _ _ (sym c.in-None.ensures.lookup.0))))
