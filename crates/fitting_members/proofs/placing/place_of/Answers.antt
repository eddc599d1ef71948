-- The half in which the place lies.
use Rattle.std.proofs.Common.{◌+◌, ◌-◌, ◌/◌, ◌∙◌, ap, refl, sym}
use Rattle.term_values.specs.Rearranged.{may_precede}
use Rattle.term_values.specs.Written.{der}
use Rattle.fitting_members.proofs.PlaceLaws.{searched_behind, searched_in_front}
use Rattle.fitting_members.proofs.placing.place_of.Goals as goal

pub search-preserved-then-branch : goal.search-preserved-then-branch
search-preserved-then-branch c =
    let e = der c.args.member.now in
    let x = c.args.encoding.now in
    let d = c.index-items-middle.result in
    searched_in_front e x c.args.items.now c.search.low c.search.high
    (c.search.low + (c.search.high - c.search.low) / 2) d c.requires c.search.invariant c.search-test.true refl
    (ap (λ v. may_precede x (e v)) (sym c.index-items-middle.is) ∙ sym c.in_ok-precedes.ensures ∙ c.if-branch.true)

pub search-preserved : goal.search-preserved
search-preserved c =
    let e = der c.args.member.now in
    let x = c.args.encoding.now in
    let d = c.index-items-middle.result in
    searched_behind e x c.args.items.now c.search.low c.search.high
    (c.search.low + (c.search.high - c.search.low) / 2) d c.requires c.search.invariant c.search-test.true refl
    (ap (λ v. may_precede x (e v)) (sym c.index-items-middle.is) ∙ sym c.in_ok-precedes.ensures ∙ c.if-branch.false)
