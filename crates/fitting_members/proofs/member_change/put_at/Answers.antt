-- The member at its place.
use Rattle.std.proofs.Common.{◌≡◌, ◌∙◌, ap, length, min}
use Rattle.term_values.specs.Typed.{listed}
use Rattle.fitting_members.proofs.UndoLaws.{put_at}
use Rattle.fitting_members.proofs.member_change.put_at.Goals as goal

pub returns : goal.returns
returns c =
    let items = c.args.items.now.items in
    let place : c.min-place.result ≡ min c.args.removal.at (length items) =
    c.min-place.ensures ∙ ap (λ xs. min c.args.removal.at (length xs)) c.as_slice.ensures.value in
    ap listed c.in_ok-insert.ensures.items
    ∙ put_at items c.args.removal.at c.min-place.result c.args.removal.member place
