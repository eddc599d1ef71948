-- The text of DEFAULT in an assignment's type.
use Rattle.std.proofs.lemmas.Result.{IfOk-weaker}
use Rattle.asn1_names.specs.TermViews.{type_term}
use Rattle.asn1_types.specs.SoughtDefaults.{TellsDefault}
use Rattle.asn1_types.proofs.TypesLaws.{no_type, told_of_type}
use Rattle.asn1_types.proofs.types.Types.default_at.Goals as goal

pub returns-in-Some : goal.returns-in-Some
returns-in-Some c = IfOk-weaker c.default_within.result _ _ (λ told tells.
    told_of_type (λ ms m of. TellsDefault ms m of c.args.path.now told) c.tables.result.now _ c.args.self.now
    c.args.number c.in-Some.home (type_term c.in-Some.of.now) c.tables.ensures c.self.view_is c.self.invariant
    c.in-Some.ensures tells) c.default_within.ensures

pub returns-in-None : goal.returns-in-None
returns-in-None c = λ m of its.
    absurd (no_type c.tables.result.now _ c.args.self.now c.args.number m of c.tables.ensures c.self.view_is
    c.in-None.ensures its)
