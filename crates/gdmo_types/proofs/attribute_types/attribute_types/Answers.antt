-- The types at the ends of the chains are those of the attributes.
use Rattle.std.proofs.Math.Path.{subst}
use Rattle.link_graphs.specs.ChainEnds.{AreEnds}
use Rattle.gdmo_names.specs.InStep.{AreEach}
use Rattle.gdmo_types.specs.TypeChains.{TellsChain}
use Rattle.gdmo_types.proofs.StepLaws.{if_ok_by}
use Rattle.gdmo_types.proofs.TypeChainLaws.{types_told}
use Rattle.gdmo_types.proofs.attribute_types.attribute_types.Goals as goal

pub returns : goal.returns
returns c = if_ok_by c.chain_types.result
    (λ answers each parts are tell same. types_told parts c.args.templates.now c.in_ok-links.links.items
    c.in_ok-ends.ends.items answers.items (c.in_ok-links.ensures parts are tell)
    (subst (λ links. AreEnds links c.in_ok-ends.ends.items) c.deref.ensures.value c.in_ok-ends.ensures)
    (subst (λ ends. AreEach (TellsChain parts c.args.templates.now) ends answers.items) c.deref-2.ensures.value
    (each parts same))) c.chain_types.ensures
