-- The syntax of an assignment's type.
use Rattle.asn1_names.specs.TermViews.{type_term}
use Rattle.asn1_types.proofs.TypesLaws.{syntax_told}
use Rattle.asn1_types.proofs.types.Types.syntax_at.Goals as goal

pub returns-in_ok-syntax-in-Some : goal.returns-in_ok-syntax-in-Some
returns-in_ok-syntax-in-Some c =
    syntax_told c.tables.result.now _ c.args.self.now c.args.number c.in-Some.home (type_term c.in-Some.of.now)
    c.in_ok-syntax-in-Some.field-0 c.tables.ensures c.self.view_is c.self.invariant c.in-Some.ensures
    c.in_ok-syntax-in-Some.ensures
