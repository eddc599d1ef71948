-- A component.
use Rattle.std.proofs.Common.{◌∙◌, sym}
use Rattle.asn1_types.proofs.DefaultLaws.{component_here, component_nowhere, component_within, no_length, some_length}
use Rattle.asn1_types.proofs.defaults.in_component.Goals as goal

pub returns-then-not-is_empty : goal.returns-then-not-is_empty
returns-then-not-is_empty c = λ ms m k word members limits there.
    component_within c.args.rest.now (some_length c.args.rest.now (sym c.is_empty.ensures ∙ c.if-not-is_empty.true))
    there

pub returns-in-Some : goal.returns-in-Some
returns-in-Some c = λ ms m k word members limits there.
    component_here k c.args.rest.now _ (no_length c.args.rest.now (sym c.is_empty.ensures ∙ c.if-not-is_empty.false))
    there c.in-Some.ensures

pub returns-in-None : goal.returns-in-None
returns-in-None c = λ ms m k word members limits there.
    component_nowhere k c.args.rest.now (no_length c.args.rest.now (sym c.is_empty.ensures ∙ c.if-not-is_empty.false))
    there c.in-None.ensures
