-- One more of them, and all.
use Rattle.std.proofs.Common.{[], ◌∷◌, arith}
use Rattle.gdmo_classes.specs.declared.attribute_use.AttributeUse.{AttributeUse}
use Rattle.gdmo_names.specs.ClassViews.{use_terms}
use Rattle.gdmo_names.specs.DocumentTemplates.{in_uses}
use Rattle.gdmo_names.specs.Mentions.{use_mentions}
use Rattle.gdmo_names.proofs.FindingLaws.{finds_as, finds_end, finds_none, finds_step}
use Rattle.gdmo_names.proofs.ShapeLaws.{in_uses_row, named_uses}
use Rattle.gdmo_names.proofs.finding_packages.find_uses.Goals as goal

pub loop-x-init : goal.loop-x-init
loop-x-init c = finds_none c.args.finding.now c.args.own.now.items

pub loop-x-preserved : goal.loop-x-preserved
loop-x-preserved c =
    finds_step (λ (y : AttributeUse). in_uses (use_terms (y ∷ []))) (λ (y : AttributeUse). use_mentions (use_terms (y ∷ [])))
    c.args.uses.now c.loop-x.x-index c.x-item.result c.loop-x-test.true c.x-item.is
    c.loop-x.invariant
    c.in_ok-find_use.ensures

pub returns : goal.returns
returns c = finds_as (in_uses_row c.args.uses.now) (named_uses c.args.uses.now)
    (finds_end (λ (y : AttributeUse). in_uses (use_terms (y ∷ []))) (λ (y : AttributeUse). use_mentions (use_terms (y ∷ [])))
    c.args.uses.now c.loop-x.x-index (omega (arith, c.loop-x-test.false)) c.loop-x.invariant)
