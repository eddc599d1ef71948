-- One more template, and all of them.
use Rattle.gdmo_names.specs.FoundViews.{found_view}
use Rattle.gdmo_begun_names.specs.StatedNames.{TemplateFirst}
use Rattle.gdmo_begun_names.proofs.MarkLaws.{marked_end, marked_step}
use Rattle.gdmo_begun_names.proofs.identifier_names.mark_templates.Goals as goal

pub loop-found-preserved : goal.loop-found-preserved
loop-found-preserved c =
    marked_step (λ found. TemplateFirst (found_view found)) c.args.templates.now c.loop-found.found-index
    c.found-item.result c.loop-found-test.true c.found-item.is c.loop-found.invariant c.mark_template.ensures

pub returns : goal.returns
returns c =
    marked_end (λ found. TemplateFirst (found_view found)) c.args.templates.now c.loop-found.found-index
    c.loop-found-test.false c.loop-found.invariant
