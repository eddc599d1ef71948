-- The member fits, and so do all in each type.
use Rattle.std.proofs.Common.{◌&&◌, ◌∙◌, ap, sym}
use Rattle.fitting_members.specs.Changing.{are_fit}
use Rattle.fitting_members.proofs.ChangeLaws.{fit_more}
use Rattle.fitting_members.proofs.adding.stay_fit.Goals as goal

pub returns : goal.returns
returns c =
    let member = c.args.member.now in
    let permitted = c.args.permitted.now in
    let items = c.args.items.now in
    let before = are_fit member permitted items in
    fit_more member permitted items c.args.value.now c.args.at c.in_ok-stay.stay c.requires
    (c.in_ok-stay.ensures c.requires)
    ∙ ap (λ b. (b && c.in_ok-stay.stay) && before) (sym c.in_ok-fit.ensures.told)
    ∙ ap (λ b. b && before) (sym c.both.ensures)
