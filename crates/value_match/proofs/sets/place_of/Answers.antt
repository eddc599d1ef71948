use Rattle.std.proofs.Common.{subst}
use Rattle.std.proofs.lemmas.List.{take_rest}
use Rattle.std.specs.Prelude.{None, Some}
use Rattle.value_match.specs.MemberPlaces.{IsPlaceOf}
use Rattle.value_match.proofs.MemberLaws.{place_behind, place_before}
use Rattle.value_match.proofs.sets.place_of.Goals as goal

pub returns-in-Some : goal.returns-in-Some
returns-in-Some c =
    place_behind c.args.members.now c.args.value.now c.args.from c.in-Some.at c.requires
    (subst (λ xs. IsPlaceOf c.args.value.now xs (Some c.in-Some.at)) (take_rest c.args.members.now c.args.from)
    c.in-Some.ensures)

pub returns-in-None : goal.returns-in-None
returns-in-None c =
    place_before c.args.members.now c.args.value.now c.args.from c.first_place-in-None.result
    (subst (λ xs. IsPlaceOf c.args.value.now xs None) (take_rest c.args.members.now c.args.from) c.in-None.ensures)
    c.first_place-in-None.ensures
