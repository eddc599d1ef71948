-- The attribute may not be named, or it may.
use Rattle.std.proofs.Math.Path.{subst}
use Rattle.gdmo_rules.specs.NamingFaults.{TellsNaming}
use Rattle.gdmo_rules.proofs.StepNameLaws.{naming_noted, no_naming_noted}
use Rattle.gdmo_rules.proofs.step_names.note_naming.Goals as goal

pub returns-in-Some : goal.returns-in-Some
returns-in-Some c = λ parts views class document label tells named.
    let told = subst (TellsNaming parts views document label) c.in-Some.is named in
    naming_noted parts views class document label c.in-Some.naming c.forbid-is_wrong.result told
    (c.forbid-is_wrong.ensures parts views class told.attribute tells told.at) c.note_where.ensures

pub returns-in_default : goal.returns-in_default
returns-in_default c = λ parts views class document label tells named. no_naming_noted parts views class document label
    c.args.faults.now.first (subst (TellsNaming parts views document label) c.in_default.is named)
