-- The template at the end, and a number that none has.
use Rattle.std.proofs.Common.{sym}
use Rattle.std.proofs.Math.Path.{subst}
use Rattle.std.proofs.lemmas.Option.{slice_get_past}
use Rattle.gdmo_types.specs.TypeChains.{TellsChain}
use Rattle.gdmo_types.specs.declared.attribute_types.AttributeType.TheVariants.{Missing}
use Rattle.gdmo_types.proofs.StepLaws.{got_at}
use Rattle.gdmo_types.proofs.TypeChainLaws.{chain_absent, chain_stated}
use Rattle.gdmo_types.proofs.attribute_types.chain_type.Goals as goal

pub returns-in-Some-get : goal.returns-in-Some-get
returns-in-Some-get c = λ parts same.
    subst (λ end. TellsChain parts c.args.templates.now end c.stated_type.result) (sym c.in-Some.is)
    (chain_stated parts c.args.templates.now c.in-Some.end c.in-Some-get.found.now c.stated_type.result
    (got_at c.args.templates.now c.in-Some.end c.in-Some-get.found.now c.in-Some-get.ensures.lookup.3.0
    c.in-Some-get.ensures.lookup.1) (c.stated_type.ensures parts same))

pub returns-in-None-get : goal.returns-in-None-get
returns-in-None-get c = λ parts same.
    subst (λ end. TellsChain parts c.args.templates.now end Missing) (sym c.in-Some.is)
    (chain_absent parts c.args.templates.now c.in-Some.end Missing
    (slice_get_past c.args.templates.now c.in-Some.end c.in-None-get.ensures.lookup.3))
