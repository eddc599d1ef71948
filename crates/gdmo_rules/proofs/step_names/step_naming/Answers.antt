-- What SET and ADD name.
use Rattle.std.proofs.Common.{sym}
use Rattle.std.proofs.Math.Path.{subst}
use Rattle.gdmo_names.specs.FoundViews.{found_views}
use Rattle.gdmo_names.specs.PartViews.{step_term}
use Rattle.gdmo_rules.specs.NamingFaults.{TellsNaming, step_label}
use Rattle.gdmo_rules.specs.StepFaults.{TellsTarget}
use Rattle.gdmo_rules.proofs.step_names.step_naming.Goals as goal

pub returns-in-Set : goal.returns-in-Set
returns-in-Set c = λ parts is told.
    let xs = c.args.linkage.now.templates.now in
    subst (λ s. TellsNaming parts (found_views xs) c.args.document (step_label (step_term s)) c.target_naming.result)
    (sym c.in-Set.is) (c.target_naming.ensures parts xs
    (subst (λ s. TellsTarget parts xs c.args.document (step_term s) c.args.target) c.in-Set.is told))

pub returns-in-Add : goal.returns-in-Add
returns-in-Add c = λ parts is told.
    let xs = c.args.linkage.now.templates.now in
    subst (λ s. TellsNaming parts (found_views xs) c.args.document (step_label (step_term s))
    c.target_naming-in-Add.result) (sym c.in-Add.is) (c.target_naming-in-Add.ensures parts xs
    (subst (λ s. TellsTarget parts xs c.args.document (step_term s) c.args.target) c.in-Add.is told))
