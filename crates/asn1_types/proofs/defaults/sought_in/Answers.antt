-- A type that may be a name.
use Rattle.std.proofs.Math.Path.{subst}
use Rattle.asn1_names.specs.TermViews.{module_terms, type_term}
use Rattle.asn1_types.specs.NextTypes.{LeadsTo}
use Rattle.asn1_types.proofs.SoughtLaws.{none_in_standard, sought_through}
use Rattle.asn1_types.proofs.defaults.sought_in.Goals as goal

pub returns-in-Some : goal.returns-in-Some
returns-in-Some c = λ document sound stands.
    let ms = module_terms c.args.numbers.now in
    let of = type_term c.args.of.now in
    let followed = c.in_ok-followed.followed in
    none_in_standard ms c.args.home of c.args.path.now followed c.in-Some.field-0
    (subst (λ s. LeadsTo ms c.args.home of followed s) c.in-Some.is (c.in_ok-followed.ensures document sound stands))

pub returns : goal.returns
returns c = λ document sound stands.
    let ms = module_terms c.args.numbers.now in
    let of = type_term c.args.of.now in
    let followed = c.in_ok-followed.followed in
    let to = subst (λ s. LeadsTo ms c.args.home of followed s) c.in-None.is
    (c.in_ok-followed.ensures document sound stands) in
    sought_through ms c.args.home followed.home of (type_term followed.of.now) to.path c.args.path.now c.in_type.result
    to.leads (c.in_type.ensures ms followed.home to.no_name)
