-- The template, what it names, and its identifier.
use Rattle.std.proofs.Common.{List, Option, sym, ◌∙◌, ℕ}
use Rattle.std.proofs.Math.Path.{subst}
use Rattle.std.proofs.lemmas.Option.{same_Some}
use Rattle.gdmo_linking.specs.Linkers.{IsOwn}
use Rattle.gdmo_names.specs.FoundViews.{found_view}
use Rattle.linked_templates.specs.TemplateTables.{IsRegistered}
use Rattle.linked_templates.proofs.OwnLaws.{got_none, got_one, own_at, registered_at, targets_at}
use Rattle.linked_templates.proofs.linking_templates.link_numbered.Goals as goal

pub returns-in_ok-link_template-in-Some-get-clause-tables : goal.returns-in_ok-link_template-in-Some-get-clause-tables
returns-in_ok-link_template-in-Some-get-clause-tables c = λ parts before is all each at so_far.
    let linker = c.args.linker.now in
    let number = c.args.number in
    let found = c.args.found.now in
    let own = got_one linker.linkage.targets.now number c.get.result c.in-Some.own c.get.ensures.lookup.0
    c.get.ensures.lookup.1 c.in-Some.is in
    let identifier = got_one c.args.identifiers.now number c.get-in-Some.result c.in-Some-get.identifier
    c.get-in-Some.ensures.lookup.0 c.get-in-Some.ensures.lookup.1 c.in-Some-get.is in
    let there = registered_at parts linker c.args.identifiers.now number found is at each in
    c.in_ok-link_template-in-Some-get.ensures.tables parts before
    (subst (λ (ys : List (Option ℕ)). IsOwn parts linker found ys) (sym c.as_slice.ensures.value)
    (own_at parts linker number found c.in-Some.own.now is all at own))
    (subst (IsRegistered parts (found_view found))
    (same_Some there.0 c.in-Some-get.identifier.now (sym there.1 ∙ identifier)) there.2) so_far

pub returns-in-None-get-clause-tables : goal.returns-in-None-get-clause-tables
returns-in-None-get-clause-tables c = λ parts before is all each at so_far.
    let there = registered_at parts c.args.linker.now c.args.identifiers.now c.args.number c.args.found.now is at each in
    let nothing = got_none c.args.identifiers.now c.args.number c.get-in-Some.result c.get-in-Some.ensures.lookup.0
    c.get-in-Some.ensures.lookup.1 c.in-None-get.is in
    let both = sym there.1 ∙ nothing in absurd (cc)

pub returns-in-None-clause-tables : goal.returns-in-None-clause-tables
returns-in-None-clause-tables c = λ parts before is all each at so_far.
    let there = targets_at parts c.args.linker.now c.args.number c.args.found.now is at in
    let nothing = got_none c.args.linker.now.linkage.targets.now c.args.number c.get.result c.get.ensures.lookup.0
    c.get.ensures.lookup.1 c.in-None.is in
    let both = sym there.1 ∙ nothing in absurd (cc)
