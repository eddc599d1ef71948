-- The labels of one more package.
use Rattle.std.proofs.Common.{◌≡◌, ◌+◌, arith, ◌++◌, take, subst, sym}
use Rattle.std.specs.Prelude.{flat_map}
use Rattle.std.proofs.lemmas.List.{take_all}
use Rattle.set_report.specs.Labels.{AddsLabels, package_label}
use Rattle.set_report.proofs.LabelLaws.{adds_both, adds_none}
use Rattle.set_report.proofs.StepLaws.{one_more_of}
use Rattle.set_report.proofs.labels.add_packages.Goals as goal

pub loop-of_package-preserved : goal.loop-of_package-preserved
loop-of_package-preserved c =
    let so_far = flat_map package_label (take c.loop-of_package.of_package-index c.args.packages.now) in
    let more : flat_map package_label (take (c.loop-of_package.of_package-index + 1) c.args.packages.now)
    ≡ so_far ++ package_label c.of_package-item.result =
    one_more_of package_label c.args.packages.now c.loop-of_package.of_package-index c.of_package-item.result
    (omega arith) c.of_package-item.is in
    subst (AddsLabels c.args.labels.now c.add_package.new.labels) (sym more)
    (adds_both c.args.labels.now c.loop-of_package.labels c.add_package.new.labels so_far
    (package_label c.of_package-item.result) c.loop-of_package.invariant
    c.in_ok-add_package.ensures)

pub loop-of_package-init : goal.loop-of_package-init
loop-of_package-init c = adds_none c.args.labels.now

pub returns : goal.returns
returns c =
    let all : take c.loop-of_package.of_package-index c.args.packages.now ≡ c.args.packages.now =
    take_all c.loop-of_package.of_package-index c.args.packages.now c.loop-of_package-test.false in
    subst
    (λ xs. AddsLabels c.args.labels.now c.loop-of_package.labels (flat_map package_label xs))
    all
    c.loop-of_package.invariant
