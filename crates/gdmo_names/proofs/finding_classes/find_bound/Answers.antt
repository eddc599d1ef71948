-- The class.
use Rattle.std.proofs.Common.{subst, sym}
use Rattle.gdmo_names.specs.ClassViews.{class_reference}
use Rattle.gdmo_names.specs.TargetTables.{Fits}
use Rattle.gdmo_names.proofs.FindingLaws.{finds_one}
use Rattle.gdmo_names.proofs.ShapeLaws.{class_fits}
use Rattle.gdmo_names.proofs.finding_classes.find_bound.Goals as goal

pub returns : goal.returns
returns c = λ is_kind. finds_one c.args.role c.in_ok-target.target (class_reference c.args.reference.now)
    (subst (λ kind. Fits kind (class_reference c.args.reference.now)) (sym is_kind) (class_fits c.args.reference.now))
    c.in_ok-target.ensures c.in_ok-push.ensures.items
