-- The template at the place of the number.
use Rattle.std.proofs.Common.{ap, sym, ◌∙◌}
use Rattle.gdmo_names.specs.FoundViews.{found_views, numbered}
use Rattle.gdmo_targets.proofs.TableLaws.{got_view}
use Rattle.gdmo_targets.proofs.labels.numbered.Goals as goal

pub returns-in-Some : goal.returns-in-Some
returns-in-Some c =
    got_view c.args.templates.now c.in-Some.number c.get.result c.get.ensures.lookup.0 c.get.ensures.lookup.1 ∙
    ap (numbered (found_views c.args.templates.now)) (sym c.in-Some.is)
