-- No name, and names of no type.
use Rattle.std.proofs.Common.{sym}
use Rattle.std.proofs.Math.Path.{subst}
use Rattle.asn1_names.specs.NodeCount.{IsNoType}
use Rattle.asn1_names.specs.TermViews.{type_term}
use Rattle.asn1_types.specs.FollowedNames.NamesNothing.{no_name}
use Rattle.asn1_types.proofs.FollowLaws.{nothing_meant}
use Rattle.asn1_types.proofs.following.next_type.Goals as goal

pub returns-in_default : goal.returns-in_default
returns-in_default c = no_name c.in_default.ensures

pub returns-in-ValueAt : goal.returns-in-ValueAt
returns-in-ValueAt c =
    nothing_meant c.tables.result.now c.args.numbers.now c.args.home (type_term c.args.of.now) c.in-Some.name.now
    c.tables.ensures c.in-Some.ensures (subst IsNoType (sym c.in-ValueAt.ensures.is) tt)

pub returns-in-Nothing : goal.returns-in-Nothing
returns-in-Nothing c =
    nothing_meant c.tables.result.now c.args.numbers.now c.args.home (type_term c.args.of.now) c.in-Some.name.now
    c.tables.ensures c.in-Some.ensures (subst IsNoType (sym c.in-Nothing.ensures) tt)
