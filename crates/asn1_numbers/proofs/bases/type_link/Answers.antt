-- A name, and a type that is none.
use Rattle.std.proofs.Common.{◌∙◌, sym}
use Rattle.std.proofs.Math.Path.{subst}
use Rattle.asn1_names.specs.NumbersFound.{beneath_tags}
use Rattle.asn1_names.specs.TermViews.{module_terms, type_term}
use Rattle.asn1_names.specs.TypeBase.Base.{Written}
use Rattle.asn1_names.specs.TypeWalks.{IsNoName}
use Rattle.asn1_numbers.specs.NumberedBases.{LinksType}
use Rattle.asn1_numbers.specs.NumberedBases.IsEnd.{written}
use Rattle.asn1_numbers.proofs.BaseLinkLaws.{base_beneath}
use Rattle.asn1_numbers.proofs.bases.type_link.Goals as goal

pub returns-in-Some : goal.returns-in-Some
returns-in-Some c =
    subst (λ x. LinksType (module_terms c.args.tables.now) c.args.home x c.name_link.result)
    (sym c.in-Some.ensures.1 ∙ c.beneath_tags.ensures) (c.name_link.ensures c.in-Some.ensures.0)

pub returns-in-None : goal.returns-in-None
returns-in-None c =
    let of = type_term c.args.of.now in (
      Written c.args.home (beneath_tags of),
      written (base_beneath of (subst IsNoName c.beneath_tags.ensures
          c.in-None.ensures)),
    )
