-- The attribute's type, or none.
use Rattle.std.proofs.Common.{◌∙◌, Some, ap}
use Rattle.std.proofs.Math.Path.{subst}
use Rattle.std.proofs.lemmas.Option.{slice_get_past}
use Rattle.gdmo_targets.specs.SectionTables.{TellsLabel}
use Rattle.gdmo_types.specs.declared.attribute_types.AttributeType.TheVariants.{Endless, Missing}
use Rattle.gdmo_types.proofs.StepLaws.{got_at}
use Rattle.begun_values.proofs.StatedLaws.{attribute_may, past_attribute, untyped_attribute}
use Rattle.begun_values.proofs.section_meanings.attribute_meaning.Goals as goal

pub returns-in-Of : goal.returns-in-Of
returns-in-Of c = λ parts document role label link wanted tells.
    let xs = c.args.linkage.now.templates.now in
    let types = c.args.linkage.now.attributes.now in
    attribute_may parts xs types document role label c.in-Some.number c.in-Of.meaning link.are_attributes
    (got_at types c.in-Some.number c.in-Some-get.own.now c.in-Some-get.ensures.lookup.3.0
    c.in-Some-get.ensures.lookup.1 ∙ ap Some c.in-Of.is)
    (subst (λ n. TellsLabel parts xs document role label n) c.in-Some.is tells)

pub returns-in-Endless : goal.returns-in-Endless
returns-in-Endless c = λ parts document role label link wanted tells.
    let xs = c.args.linkage.now.templates.now in
    let types = c.args.linkage.now.attributes.now in
    untyped_attribute parts xs types document role label c.in-Some.number Endless link.are_attributes
    (got_at types c.in-Some.number c.in-Some-get.own.now c.in-Some-get.ensures.lookup.3.0
    c.in-Some-get.ensures.lookup.1 ∙ ap Some c.in-Endless.is) tt wanted
    (subst (λ n. TellsLabel parts xs document role label n) c.in-Some.is tells)

pub returns-in-Missing : goal.returns-in-Missing
returns-in-Missing c = λ parts document role label link wanted tells.
    let xs = c.args.linkage.now.templates.now in
    let types = c.args.linkage.now.attributes.now in
    untyped_attribute parts xs types document role label c.in-Some.number Missing link.are_attributes
    (got_at types c.in-Some.number c.in-Some-get.own.now c.in-Some-get.ensures.lookup.3.0
    c.in-Some-get.ensures.lookup.1 ∙ ap Some c.in-Missing.is) tt wanted
    (subst (λ n. TellsLabel parts xs document role label n) c.in-Some.is tells)

pub returns-in-None-get : goal.returns-in-None-get
returns-in-None-get c = λ parts document role label link wanted tells.
    let xs = c.args.linkage.now.templates.now in
    let types = c.args.linkage.now.attributes.now in
    past_attribute parts xs types document role label c.in-Some.number link.are_attributes
    (slice_get_past types c.in-Some.number c.in-None-get.ensures.lookup.3)
    (subst (λ n. TellsLabel parts xs document role label n) c.in-Some.is tells)
