-- The attribute from which it derives, and none.
use Rattle.link_graphs.specs.declared.chains.Link.TheVariants.{End}
use Rattle.gdmo_types.specs.TypeChains.{LeadsOn, LinksTemplate}
use Rattle.gdmo_types.proofs.TypeChainLaws.{link_end, link_next, viewed}
use Rattle.gdmo_types.proofs.attribute_types.type_link.Goals as goal

pub returns-in-Some : goal.returns-in-Some
returns-in-Some c = λ parts are tell x at.
    viewed (λ y. LeadsOn parts c.args.templates.now y c.in-Some.base) c.args.templates.now c.args.number x at
    (λ found there. link_next parts c.args.templates.now found c.in-Some.base
    (c.in-Some.ensures parts found are tell there))

pub returns-in-None : goal.returns-in-None
returns-in-None c = λ parts are tell x at.
    viewed (λ y. LinksTemplate parts c.args.templates.now y End) c.args.templates.now c.args.number x at
    (λ found there. link_end parts c.args.templates.now found (c.in-None.ensures parts found are tell there))
