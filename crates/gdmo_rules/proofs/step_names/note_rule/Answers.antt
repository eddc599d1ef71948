-- There is no such rule, nothing is told of it, or its steps.
use Rattle.std.proofs.Common.{map, sym}
use Rattle.std.proofs.Math.Path.{subst}
use Rattle.gdmo_names.specs.FaultSets.{AnyOf, Notes}
use Rattle.gdmo_names.specs.InStep.{AreEach}
use Rattle.gdmo_names.specs.PartViews.{step_term}
use Rattle.gdmo_targets.specs.SectionTables.{TellsStep}
use Rattle.gdmo_targets.specs.StatedRules.{text_term}
use Rattle.gdmo_types.proofs.StepLaws.{got_at}
use Rattle.gdmo_rules.specs.NamingFaults.{StepNamingFaults}
use Rattle.gdmo_rules.proofs.StepNameLaws.{own_past, own_there, rule_noted, rule_past, rule_there}
use Rattle.gdmo_rules.proofs.step_names.note_rule.Goals as goal

pub returns-in_default : goal.returns-in_default
returns-in_default c = λ parts class is tells are each. rule_past parts class c.args.rules.now c.args.place
    c.args.faults.now.first are c.in_default.ensures.lookup.3

pub returns-in_default-get : goal.returns-in_default-get
returns-in_default-get c = λ parts class is tells are each.
    let rule = c.in-Some.rule.now in
    let at = rule_there parts c.args.rules.now c.args.place rule are (got_at c.args.rules.now c.args.place rule
    c.in-Some.ensures.lookup.3.0 c.in-Some.ensures.lookup.1) in
    own_past parts c.args.linkage.now.templates.now c.args.targets.now c.args.place (text_term rule) each at
    c.in_default-get.ensures.lookup.3

pub returns : goal.returns
returns c = λ parts class is tells are each.
    let xs = c.args.linkage.now.templates.now in
    let text = c.in-Some.rule.now in
    let rule = text_term text in
    let own = c.in-Some-get.own.now in
    let at = rule_there parts c.args.rules.now c.args.place text are (got_at c.args.rules.now c.args.place text
    c.in-Some.ensures.lookup.3.0 c.in-Some.ensures.lookup.1) in
    let told = own_there parts xs c.args.targets.now c.args.place rule own each at (got_at c.args.targets.now
    c.args.place own c.in-Some-get.ensures.lookup.3.0 c.in-Some-get.ensures.lookup.1) in
    let steps = subst (λ ns. AreEach (TellsStep parts xs rule.document) (map step_term c.as_slice-steps.result.now) ns)
    (sym c.as_slice.ensures.value) (subst (λ ss. AreEach (TellsStep parts xs rule.document) (map step_term ss)
    own.steps.items) (sym c.as_slice-steps.ensures.value) told.are_steps) in
    rule_noted parts class c.args.place rule at
    (subst (λ ss. Notes (AnyOf (StepNamingFaults parts class rule.document) (map step_term ss))
    c.args.faults.now.first c.note_steps.new.faults.first) c.as_slice-steps.ensures.value
    (c.note_steps.ensures parts class is tells steps))
