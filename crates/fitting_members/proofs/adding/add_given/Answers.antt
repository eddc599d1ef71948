-- From the members that were held to those that are there.
use Rattle.std.proofs.Common.{◌≡◌, ◌&&◌, ◌∙◌, Fits, ap, arith, length, refl, rules, w64}
use Rattle.term_values.specs.Bounded.{allowed_size}
use Rattle.term_values.specs.Typed.TypedValue.{Many}
use Rattle.fitting_members.specs.Changing.{IsAdding}
use Rattle.fitting_members.specs.MemberTests.{all_numbers_fit}
use Rattle.fitting_members.proofs.ChangeLaws.{adding_begins, adding_ends}
use Rattle.fitting_members.proofs.FitLaws.{rising_of}
use Rattle.fitting_members.proofs.adding.add_given.Goals as goal
use Rattle.fitting_members.proofs.adding.add_given.Goals.{After-both}

pub add_each-requires : goal.add_each-requires
add_each-requires c = rising_of c.args.member.now c.args.sizes.now c.args.items.now.items c.requires.fits

is_adding : (c : After-both) → IsAdding c.args.member.now c.args.permitted.now c.args.items.now.items
    c.add_each.new.items.items c.add_each.new.made
is_adding c =
    let small : Fits w64 c.args.octets = search rules in
    c.in_ok-add_each.ensures.made c.args.items.now.items
    (adding_begins c.args.member.now c.args.sizes.now c.args.permitted.now c.args.items.now.items _ c.requires.fits
    c.requires.permitted c.requires.octets (omega arith) refl c.new.ensures.items)

pub returns-clause-allowed : goal.returns-clause-allowed
returns-clause-allowed c =
    let sizes = c.args.sizes.now in
    let permitted = c.args.permitted.now in
    let items = c.add_each.new.items.items in
    let sized : c.both-sized.result ≡ (allowed_size sizes (length items) && all_numbers_fit permitted (length items)) =
    c.both-sized.ensures ∙ (λ i. c.allow_size.ensures i && c.all_numbers_fit.ensures i)
    ∙ ap (λ xs. allowed_size sizes (length xs) && all_numbers_fit permitted (length xs)) c.as_slice-count.ensures.value in
    adding_ends c.args.member.now sizes permitted c.args.items.now.items items c.add_each.new.made c.both-sized.result
    c.both.result c.in_ok-add_each.ensures.rising (is_adding c) sized c.both.ensures

pub returns-clause-octets : goal.returns-clause-octets
returns-clause-octets c = (is_adding c).octets

pub returns-clause-undo : goal.returns-clause-undo
returns-clause-undo c = ap Many (is_adding c).undone
