-- One template more.
use Rattle.std.proofs.Common.{◌<◌, arith, length, sym, take}
use Rattle.std.proofs.Math.Path.{subst}
use Rattle.gdmo_linking.proofs.StepLaws.{at_place, map_at, taken}
use Rattle.gdmo_names.specs.FoundViews.{found_view, found_views}
use Rattle.linked_templates.specs.TemplateTables.{AreLinkedTemplates}
use Rattle.linked_templates.proofs.OwnLaws.{keeps_both}
use Rattle.linked_templates.proofs.linking_templates.link_templates.Goals as goal

pub loop-number-preserved : goal.loop-number-preserved
loop-number-preserved c =
    let xs = c.args.linker.now.linkage.templates.now in
    let views = found_views xs in
    let i = c.loop-number.number in
    let x = c.index-templates-number.result in
    let within : i < length xs = omega (arith, c.loop-number-test.true) in
    let at = at_place xs i x within c.index-templates-number.is in (
      λ parts is all each begun.
          subst (λ ys. AreLinkedTemplates parts ys c.link_numbered.new.linked)
          (sym (taken views i (found_view x) (map_at found_view xs i x at)))
          (c.in_ok-link_numbered.ensures.tables parts (take i views) is all each at
          (c.loop-number.invariant.0 parts is all each begun)),
      keeps_both c.args.linked.now c.loop-number.linked c.link_numbered.new.linked c.loop-number.invariant.1
          c.in_ok-link_numbered.ensures.keeps,
    )
