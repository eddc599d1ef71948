-- The number that stands at the place.
use Rattle.std.proofs.Common.{sym}
use Rattle.std.proofs.Math.Path.{subst}
use Rattle.gdmo_names.specs.TargetTables.{TellsMention}
use Rattle.gdmo_rules.proofs.StepTypeLaws.{target_of_step}
use Rattle.gdmo_rules.proofs.rule_texts.step_target.Goals as goal

pub returns : goal.returns
returns c = λ parts document step n at tells.
    let xs = c.args.templates.now in
    target_of_step parts xs document step n c.known_number.result tells (λ x told.
    c.known_number.ensures parts document x (subst (TellsMention parts xs document x) (sym (c.number_at.ensures n at))
    told))
