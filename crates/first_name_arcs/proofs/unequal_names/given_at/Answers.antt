-- The arcs that a definer gives.
use Rattle.std.proofs.Common.{◌∙◌, ap, refl, subst, sym}
use Rattle.std.specs.Prelude.{option_map}
use Rattle.std.specs.Borrow.{Bor}
use Rattle.asn1_syntax.specs.declared.module.Module.{Module}
use Rattle.asn1_names.specs.TermViews.{assignment_term}
use Rattle.first_name_arcs.specs.BegunFirst.{TellsBegun}
use Rattle.first_name_arcs.proofs.BegunLaws.{given_told, no_definer, no_home}
use Rattle.first_name_arcs.proofs.unequal_names.given_at.Goals as goal

pub returns-in_default : goal.returns-in_default
returns-in_default c = λ parts has known whole begun key d.
    no_definer parts c.args.tables.now c.args.number key _ has c.in_default.ensures d

pub returns-in_default-module_at : goal.returns-in_default-module_at
returns-in_default-module_at c = λ parts has known whole begun key d.
    no_home parts c.args.tables.now c.args.number c.in-Some.home (assignment_term c.in-Some.assignment.now) _
    c.in-Some.ensures
    (sym c.module_at.ensures ∙ ap (option_map (λ (x : Bor Module). x.now)) c.in_default-module_at.is)

pub returns : goal.returns
returns c = λ parts has known whole begun key d.
    let own = c.in-Some.assignment.now in
    let there = sym c.module_at.ensures ∙ ap (option_map (λ (x : Bor Module). x.now)) c.in-Some-module_at.is in
    given_told parts c.args.known.now.numbers.lists c.args.tables.now c.args.number c.in-Some.home
    (assignment_term own) own.name c.in-Some-module_at.module.now has c.in-Some.ensures refl there
    c.begun_first-first.result c.of_value-list.result (λ x at. c.of_value-list.ensures parts known whole x at)
    (subst (λ n. TellsBegun parts n c.begun_first-first.result) c.as_slice.ensures
    (c.begun_first-first.ensures parts known.are_defined begun)) key d c.given_by.result c.given_by.ensures.none
    c.given_by.ensures.some
