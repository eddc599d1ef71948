-- What the base of the type has under the name.
use Rattle.std.proofs.Common.{◌≡◌, ◌∙◌, None, Some, ap, sym}
use Rattle.std.proofs.Math.Path.{subst}
use Rattle.asn1_names.specs.NumbersFound.{beneath_tags}
use Rattle.asn1_names.specs.TermViews.{bound_term, module_terms, type_term}
use Rattle.asn1_names.specs.TypeBase.{named_numbers, number_called}
use Rattle.asn1_numbers.specs.NumberedBases.{HasBaseAt, TellsBase, numbers_at}
use Rattle.asn1_numbers.proofs.ValueLaws.{named_there, unnamed_there}
use Rattle.asn1_numbers.proofs.values.named_bound.Goals as goal

pub returns-in-Some-bound_called : goal.returns-in-Some-bound_called
returns-in-Some-bound_called c = λ m of is.
    let ms = module_terms c.args.tables.now in
    let whole = type_term c.in-Some-type_at.field-0-1.now in
    let base : HasBaseAt ms c.args.number c.in-Some.base =
    subst (TellsBase ms c.args.number) (sym c.held_at.ensures ∙ c.in-Some.is) (c.requires.bases c.args.number) in
    let called : Some (bound_term c.in-Some-bound_called.bound.now) ≡
    number_called c.args.name.now.text (named_numbers (beneath_tags whole)) =
    c.in-Some-bound_called.ensures ∙ ap (numbers_at c.args.maps.now c.in-Some.base) c.as_slice.ensures ∙
    c.requires.maps c.in-Some.base c.in-Some-type_at.home whole c.in-Some-type_at.ensures c.args.name.now.text in
    named_there ms c.args.number c.in-Some.base c.in-Some-type_at.home m whole of c.args.name.now
    (bound_term c.in-Some-bound_called.bound.now) base c.in-Some-type_at.ensures is (sym called)

pub returns-in-None : goal.returns-in-None
returns-in-None c = λ m of is w said.
    let ms = module_terms c.args.tables.now in
    let whole = type_term c.in-Some-type_at.field-0-1.now in
    let base : HasBaseAt ms c.args.number c.in-Some.base =
    subst (TellsBase ms c.args.number) (sym c.held_at.ensures ∙ c.in-Some.is) (c.requires.bases c.args.number) in
    let called : None ≡ number_called c.args.name.now.text (named_numbers (beneath_tags whole)) =
    c.in-None.ensures ∙ ap (numbers_at c.args.maps.now c.in-Some.base) c.as_slice.ensures ∙
    c.requires.maps c.in-Some.base c.in-Some-type_at.home whole c.in-Some-type_at.ensures c.args.name.now.text in
    unnamed_there ms c.args.number c.in-Some.base c.in-Some-type_at.home m w whole of c.args.name.now said base
    c.in-Some-type_at.ensures is (sym called)
