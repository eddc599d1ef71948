-- From the members that were held to those that are left.
use Rattle.std.proofs.Common.{◌≡◌, ◌&&◌, ◌∙◌, Fits, ap, arith, length, rules, w64}
use Rattle.term_values.specs.Bounded.{allowed_size}
use Rattle.term_values.specs.Typed.TypedValue.{Many}
use Rattle.fitting_members.specs.Changing.{IsRemoving}
use Rattle.fitting_members.specs.MemberTests.{all_numbers_fit}
use Rattle.fitting_members.proofs.ChangeLaws.{counted_small, removing_begins, removing_ends}
use Rattle.fitting_members.proofs.FitLaws.{rising_of}
use Rattle.fitting_members.proofs.removing.remove_given.Goals as goal
use Rattle.fitting_members.proofs.removing.remove_given.Goals.{After-both-allowed}

pub remove_each-requires : goal.remove_each-requires
remove_each-requires c = rising_of c.args.member.now c.args.sizes.now c.args.items.now.items c.requires.fits

is_removing : (c : After-both-allowed) → IsRemoving c.args.member.now c.args.permitted.now c.args.items.now.items
    c.remove_each.new.items.items c.remove_each.new.made
is_removing c =
    let small : Fits w64 c.args.octets = search rules in
    c.in_ok-remove_each.ensures.made c.args.permitted.now c.args.items.now.items
    (removing_begins c.args.member.now c.args.sizes.now c.args.permitted.now c.args.items.now.items _ c.requires.fits
    c.requires.permitted c.requires.octets (omega arith) c.new.ensures.items)

pub returns-clause-allowed : goal.returns-clause-allowed
returns-clause-allowed c =
    let sizes = c.args.sizes.now in
    let permitted = c.args.permitted.now in
    let items = c.remove_each.new.items.items in
    let allowed : c.both-allowed.result ≡ (allowed_size sizes (length items) && all_numbers_fit permitted (length items)) =
    c.both-allowed.ensures ∙ (λ i. c.allow_size.ensures i && c.all_numbers_fit.ensures i)
    ∙ ap (λ xs. allowed_size sizes (length xs) && all_numbers_fit permitted (length xs)) c.as_slice-count.ensures.value in
    removing_ends c.args.member.now sizes permitted c.args.items.now.items items c.remove_each.new.made
    c.both-allowed.result c.in_ok-remove_each.ensures.rising (is_removing c) allowed

pub returns-clause-octets : goal.returns-clause-octets
returns-clause-octets c =
    counted_small c.args.member.now c.args.permitted.now c.args.items.now.items c.remove_each.new.items.items
    c.remove_each.new.made (is_removing c)

pub returns-clause-undo : goal.returns-clause-undo
returns-clause-undo c = ap Many (is_removing c).undone
