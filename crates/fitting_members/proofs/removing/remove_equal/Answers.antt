-- One member less that has the encoding.
use Rattle.std.proofs.Common.{rules, ◌∷◌, ◌∙◌, [], ap, sym, subst}
use Rattle.term_values.specs.SetMembers.{other_members}
use Rattle.term_values.specs.Typed.{listed}
use Rattle.term_values.specs.Written.{der}
use Rattle.fitting_members.specs.MemberPlaces.{AreRising, IsPlace}
use Rattle.fitting_members.proofs.MemberLaws.{none_less, one_less, there_within}
use Rattle.fitting_members.proofs.PlaceLaws.{among_at, still_place, without_rises}
use Rattle.fitting_members.proofs.removing.remove_equal.Goals as goal

pub take_noted-requires : goal.take_noted-requires
take_noted-requires c = sym c.equal.invariant.1 ∙ c.equal-test.true

pub equal-preserved : goal.equal-preserved
equal-preserved c =
    let e = der c.args.member.now in
    let x = c.args.encoding.now in
    let items = c.equal.items.items in
    let so_far = c.equal.invariant in
    let there = sym so_far.1 ∙ c.equal-test.true in
    let within = there_within e x items c.args.at there in
    let less = c.in_ok-take_noted.ensures.items in (
      so_far.0 ∙ sym (one_less e x items c.args.at there)
          ∙ ap (λ vs. other_members e (x ∷ []) (listed vs)) (sym less),
      search (rules, c.in_ok-had-2.ensures),
      subst (AreRising e) (sym less) (without_rises e items c.args.at within so_far.2),
      subst (λ vs. IsPlace e x vs c.args.at) (sym less) (still_place e x items c.args.at within so_far.3),
      λ permitted before so. c.in_ok-take_noted.ensures.made permitted before (so_far.4 permitted before so),
    )

pub returns-clause-removed : goal.returns-clause-removed
returns-clause-removed c =
    let e = der c.args.member.now in
    let x = c.args.encoding.now in
    let items = c.equal.items.items in
    let so_far = c.equal.invariant in
    let none = among_at e x items c.args.at so_far.2 so_far.3 ∙ sym so_far.1 ∙ c.equal-test.false in
    sym (so_far.0 ∙ none_less e x items none)
