-- The rules by class.
use Rattle.std.proofs.Common.{◌≡◌, length, sym, ◌∙◌}
use Rattle.std.proofs.Math.Path.{subst}
use Rattle.std.proofs.lemmas.List.{length-map}
use Rattle.gdmo_names.specs.FoundViews.{found_view, found_views}
use Rattle.gdmo_rules.specs.NamingFaults.{AreByClass, row_lists}
use Rattle.gdmo_rules.proofs.step_names.note_names.Goals as goal

pub returns : goal.returns
returns c = λ parts is graph apart are each.
    let xs = c.args.linkage.now.templates.now in
    let same = sym c.as_slice.ensures.value in
    c.in_ok-note_classes.ensures parts is graph apart are each
    (subst (λ rows. length (row_lists rows) ≡ length (found_views xs)) same
    (c.in_ok-by_class.ensures.size ∙ sym (length-map xs found_view)))
    (subst (λ rows. AreByClass c.args.targets.now (row_lists rows)) same c.in_ok-by_class.ensures.told)
