-- There is none, one that isn't wanted, and one that is.
use Rattle.std.proofs.Common.{◌≡◌, arith, refl, sym, true}
use Rattle.std.proofs.Math.Path.{subst}
use Rattle.std.proofs.lemmas.Bool.{false≢true}
use Rattle.std.proofs.lemmas.List.{length-map}
use Rattle.std.proofs.lemmas.Option.{slice_get_within}
use Rattle.link_graphs.specs.Leading.{target_lists}
use Rattle.gdmo_names.specs.ClassMembers.{names_subclasses}
use Rattle.gdmo_names.specs.FoundViews.{found_view, found_views}
use Rattle.gdmo_names.specs.PartTerms.{body_of}
use Rattle.gdmo_types.proofs.StepLaws.{got_at}
use Rattle.class_graphs.proofs.NamedLaws.{same_found, unwanted_added, wanted_added}
use Rattle.class_graphs.proofs.naming_links.add_binding.Goals as goal

pub returns-in_default : goal.returns-in_default
returns-in_default c = λ parts by is at.
    let xs = c.args.linkage.now.templates.now in
    let within = slice_get_within (found_views xs) c.args.number by at in
    let past = c.in_default.ensures.lookup.3 in
    absurd (let l = length-map xs found_view in omega (arith, within, past, l))

pub returns-then-not-is_wanted : goal.returns-then-not-is_wanted
returns-then-not-is_wanted c = λ parts by is at.
    let xs = c.args.linkage.now.templates.now in
    let found = c.in-Some.found.now in
    let same = same_found xs c.args.number by found at
    (got_at xs c.args.number found c.in-Some.ensures.lookup.3.0 c.in-Some.ensures.lookup.1) in
    unwanted_added parts (found_views xs) by c.args.with_subclasses (target_lists c.args.graph.now)
    (λ h. false≢true (c.if-not-is_wanted.ensures.1
    (subst (λ x. c.args.with_subclasses ≡ true → names_subclasses (body_of x.template) ≡ true) (sym same) h)))

pub returns : goal.returns
returns c = λ parts by is at.
    let xs = c.args.linkage.now.templates.now in
    let found = c.in-Some.found.now in
    let same = same_found xs c.args.number by found at
    (got_at xs c.args.number found c.in-Some.ensures.lookup.3.0 c.in-Some.ensures.lookup.1) in
    wanted_added parts (found_views xs) by c.args.with_subclasses
    (subst (λ x. c.args.with_subclasses ≡ true → names_subclasses (body_of x.template) ≡ true) same
    (c.if-not-is_wanted.ensures.0 refl)) (c.in_ok-add_classes.ensures parts by is at)
