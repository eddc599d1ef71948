-- A name beneath the tags, and a type that is none.
use Rattle.std.proofs.Common.{◌∙◌, sym}
use Rattle.std.proofs.Math.Path.{subst}
use Rattle.asn1_names.specs.NumbersFound.{FindsBase, beneath_tags}
use Rattle.asn1_names.specs.TermViews.{module_terms, type_term}
use Rattle.asn1_names.specs.TypeBase.{HasBase}
use Rattle.asn1_names.specs.TypeBase.Base.{Written}
use Rattle.asn1_names.specs.TypeBase.HasBase.{itself}
use Rattle.asn1_names.specs.TypeWalks.{IsNoName}
use Rattle.asn1_numbers.proofs.BaseLaws.{found_above}
use Rattle.asn1_numbers.proofs.BaseLinkLaws.{above_tags, base_beneath}
use Rattle.asn1_numbers.proofs.number_tables.Numbers.base.Goals as goal

pub returns-in-Some-clause-found : goal.returns-in-Some-clause-found
returns-in-Some-clause-found c =
    let ms = module_terms c.args.self.now in
    found_above ms c.args.home (type_term c.args.of.now) c.named_base.result
    (subst (λ x. FindsBase ms c.args.home x c.named_base.result)
    (sym c.in-Some.ensures.1 ∙ c.beneath_tags-top.ensures) (c.named_base.ensures.found c.in-Some.ensures.0))

pub returns-in-Some-clause-own : goal.returns-in-Some-clause-own
returns-in-Some-clause-own c = c.named_base.ensures.own (type_term c.args.of.now)

pub returns-in-None-clause-found : goal.returns-in-None-clause-found
returns-in-None-clause-found c =
    let ms = module_terms c.args.self.now in
    let home = c.args.home in
    let of = type_term c.args.of.now in (
      above_tags ms home of (Written home (type_term c.beneath_tags-top.result.now))
          (subst (λ x. HasBase ms home (beneath_tags of) (Written home x)) (sym c.beneath_tags-top.ensures)
          (itself (base_beneath of (subst IsNoName c.beneath_tags-top.ensures c.in-None.ensures)))),
      tt,
    )
