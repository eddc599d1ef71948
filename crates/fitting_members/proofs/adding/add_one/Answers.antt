-- A member at its place among rising ones.
use Rattle.std.proofs.Common.{◌≡◌, ◌&&◌, ◌+◌, ◌∙◌, ap, false, insert, length, refl, rules, sym, subst, true}
use Rattle.term_values.specs.Lengths.{counted}
use Rattle.term_values.specs.Typed.{listed}
use Rattle.term_values.specs.Written.{der}
use Rattle.fitting_members.specs.Changing.{IsAdding, are_fit}
use Rattle.fitting_members.specs.MemberPlaces.{AreRising, IsPlace, has_at}
use Rattle.fitting_members.proofs.ChangeLaws.{adding_step}
use Rattle.fitting_members.proofs.MemberLaws.{placed_one, placed_rises, there_one}
use Rattle.fitting_members.proofs.adding.add_one.Goals as goal

pub returns-then-branch-clause-added : goal.returns-then-branch-clause-added
returns-then-branch-clause-added c =
    let e = der c.args.member.now in
    let items = c.args.items.now.items in
    let g = c.args.value.now in
    let place : IsPlace e (e g) items c.in_ok-at.at = search (rules, c.in_ok-at.ensures, c.in_ok-encoding.ensures) in
    let there : has_at e (e g) items c.in_ok-at.at ≡ true =
    search (rules, c.in_ok-has_at.ensures, c.in_ok-encoding.ensures, c.if-branch.true) in
    there_one e g items c.in_ok-at.at c.requires place there

pub returns-clause-added : goal.returns-clause-added
returns-clause-added c =
    let e = der c.args.member.now in
    let items = c.args.items.now.items in
    let g = c.args.value.now in
    let place : IsPlace e (e g) items c.in_ok-at.at = search (rules, c.in_ok-at.ensures, c.in_ok-encoding.ensures) in
    let none : has_at e (e g) items c.in_ok-at.at ≡ false =
    search (rules, c.in_ok-has_at.ensures, c.in_ok-encoding.ensures, c.if-branch.false) in
    let put : c.insert.new.self.items ≡ insert items c.in_ok-at.at g =
    search (rules, c.in_ok-insert.ensures.items, c.in_ok-copy.ensures) in
    ap listed put ∙ placed_one e g items c.in_ok-at.at c.requires place none

pub returns-clause-rising : goal.returns-clause-rising
returns-clause-rising c =
    let e = der c.args.member.now in
    let items = c.args.items.now.items in
    let g = c.args.value.now in
    let place : IsPlace e (e g) items c.in_ok-at.at = search (rules, c.in_ok-at.ensures, c.in_ok-encoding.ensures) in
    let put : c.insert.new.self.items ≡ insert items c.in_ok-at.at g =
    search (rules, c.in_ok-insert.ensures.items, c.in_ok-copy.ensures) in
    subst (AreRising e) (sym put) (placed_rises e g items c.in_ok-at.at c.requires place)

pub returns-clause-made : goal.returns-clause-made
returns-clause-made c = λ before so.
    let member = c.args.member.now in
    let permitted = c.args.permitted.now in
    let e = der member in
    let items = c.args.items.now.items in
    let g = c.args.value.now in
    let at = c.in_ok-at.at in
    let fit = c.in_ok-fit.fit in
    let made = c.args.made.now in
    let after = c.note_added.new.made in
    let place : IsPlace e (e g) items at = search (rules, c.in_ok-at.ensures, c.in_ok-encoding.ensures) in
    let put : c.insert.new.self.items ≡ insert items at g =
    search (rules, c.in_ok-insert.ensures.items, c.in_ok-copy.ensures) in
    let fits : are_fit member permitted (insert items at g) ≡ (fit && are_fit member permitted items) =
    search (rules, c.in_ok-fit.ensures) in
    let octets : after.octets ≡ counted (length (e g) + made.octets) =
    search (rules, c.in_ok-note_added.ensures.octets, c.in_ok-encoding.ensures) in
    subst (λ xs. IsAdding member permitted before xs after) (sym put)
    (adding_step member permitted before items g at (length (e g)) fit made after place.within fits refl
    c.in_ok-note_added.ensures.places octets c.in_ok-note_added.ensures.fit so)
