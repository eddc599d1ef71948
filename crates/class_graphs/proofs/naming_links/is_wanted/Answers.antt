-- Any is wanted, or one with AND SUBCLASSES.
use Rattle.std.proofs.Common.{sym, ◌∙◌}
use Rattle.class_graphs.proofs.naming_links.is_wanted.Goals as goal

pub returns : goal.returns
returns c =
    let is = c.names_subclasses.ensures in
    ((λ e flag. sym is ∙ e), (λ h. is ∙ h c.if-not-with_subclasses.false))
