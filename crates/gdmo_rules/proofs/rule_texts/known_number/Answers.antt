-- The number of a template, and one past the last.
use Rattle.std.proofs.Common.{◌<◌, ◌≤◌, arith, length}
use Rattle.std.proofs.Math.Path.{subst}
use Rattle.gdmo_names.specs.TargetTables.{TellsMention}
use Rattle.gdmo_types.proofs.RoleLaws.{number_meant, past_meant}
use Rattle.gdmo_rules.proofs.rule_texts.known_number.Goals as goal

pub returns-then-number-templates : goal.returns-then-number-templates
returns-then-number-templates c = λ parts document x tells.
    let within : c.in-Some.number < length c.args.templates.now = omega (arith, c.if-number-templates.true) in
    number_meant parts c.args.templates.now document x c.in-Some.number within
    (subst (TellsMention parts c.args.templates.now document x) c.in-Some.is tells)

pub returns-else-number-templates : goal.returns-else-number-templates
returns-else-number-templates c = λ parts document x tells.
    let past : length c.args.templates.now ≤ c.in-Some.number = omega (arith, c.if-number-templates.false) in
    past_meant parts c.args.templates.now document x c.in-Some.number past
    (subst (TellsMention parts c.args.templates.now document x) c.in-Some.is tells)
