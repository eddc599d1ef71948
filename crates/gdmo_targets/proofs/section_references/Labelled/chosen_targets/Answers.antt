-- One more of them, and all.
use Rattle.std.proofs.Common.{[], arith, refl, subst, sym}
use Rattle.token_grammar.specs.declared.token.Token.{Token}
use Rattle.gdmo_names.specs.FaultSets.{AnyOf, Notes}
use Rattle.gdmo_names.specs.InStep.{AreEach}
use Rattle.gdmo_names.specs.Mentions.Role.{ChosenPackage}
use Rattle.gdmo_names.specs.SectionFaults.{LabelFaults}
use Rattle.gdmo_targets.specs.SectionTables.{TellsLabel}
use Rattle.gdmo_names.proofs.InStepLaws.{AddsNoted, map_same, noted_none, noted_one_more, noted_whole}
use Rattle.gdmo_targets.proofs.section_references.Labelled.chosen_targets.Goals as goal

pub loop-package-init : goal.loop-package-init
loop-package-init c = λ parts is. subst (λ made. AddsNoted (TellsLabel parts c.args.self.now.templates.now c.args.document ChosenPackage) (LabelFaults parts c.args.document ChosenPackage)
    [] [] made c.args.faults.now.first c.args.faults.now.first) (sym c.new-targets.ensures.items)
    (noted_none (TellsLabel parts c.args.self.now.templates.now c.args.document ChosenPackage) (LabelFaults parts c.args.document ChosenPackage)
    [] c.args.faults.now.first)

pub loop-package-preserved : goal.loop-package-preserved
loop-package-preserved c = λ parts is.
    noted_one_more (TellsLabel parts c.args.self.now.templates.now c.args.document ChosenPackage) (LabelFaults parts c.args.document ChosenPackage)
    (λ (x : Token). x) c.args.packages.now c.loop-package.package-index c.package-item.result []
    c.loop-package.targets.items c.push.new.self.items c.named.result c.loop-package-test.true c.package-item.is
    c.in_ok-push.ensures.items (c.loop-package.invariant parts is) (c.named.ensures parts is)

pub returns : goal.returns
returns c = λ parts is.
    subst (λ xs. (AreEach (TellsLabel parts c.args.self.now.templates.now c.args.document ChosenPackage) xs
    c.loop-package.targets.items) × Notes (AnyOf (LabelFaults parts c.args.document ChosenPackage) xs)
    c.args.faults.now.first c.loop-package.faults.first) (map_same c.args.packages.now)
    (noted_whole (TellsLabel parts c.args.self.now.templates.now c.args.document ChosenPackage) (LabelFaults parts c.args.document ChosenPackage)
    (λ (x : Token). x) c.args.packages.now c.loop-package.package-index [] c.loop-package.targets.items refl
    (omega (arith, c.loop-package-test.false)) (c.loop-package.invariant parts is))
