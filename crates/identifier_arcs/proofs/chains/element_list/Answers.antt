-- An element that is marked has none; the others are told by the one with which they begin.
use Rattle.std.proofs.Common.{◌≡◌, sym, subst, Some, ◌∙◌}
use Rattle.std.specs.List.{slice_get}
use Rattle.std.proofs.lemmas.Bool.{false≢true}
use Rattle.std.proofs.lemmas.Option.{none-some, same_Some}
use Rattle.identifier_arcs.specs.declared.chains.Chain.{Chain}
use Rattle.identifier_arcs.specs.Chains.{IsBegun, TellsNumbers}
use Rattle.identifier_arcs.proofs.ChainLaws.{marked_none, not_there, there_is}
use Rattle.identifier_arcs.proofs.chains.element_list.Goals as goal

pub returns-then-is_marked-clause-is : goal.returns-then-is_marked-clause-is
returns-then-is_marked-clause-is c = λ x h m f. marked_none c.args.lists.now c.args.chains.now c.args.cyclic.now
    c.args.element (c.is_marked.ensures.0 c.if-is_marked.true) x h m

pub returns-in_ok-chain_list-in-Some-clause-is : goal.returns-in_ok-chain_list-in-Some-clause-is
returns-in_ok-chain_list-in-Some-clause-is c =
    let chains = c.args.chains.now in
    let chain = c.in-Some.chain.now in
    let there : slice_get chains c.args.element ≡ Some chain =
    there_is chains c.args.element chain c.in-Some.ensures.lookup.0 c.in-Some.ensures.lookup.1 in
    λ x h m f.
    let same = same_Some chain x (sym there ∙ h) in
    subst (λ (y : Chain). TellsNumbers c.chain_list.new.lists chains y c.in_ok-chain_list-in-Some.field-0) same
    (c.in_ok-chain_list-in-Some.ensures.is chains
    (subst (λ (y : Chain). IsBegun c.args.lists.now chains c.args.told.now y.begin) (sym same)
    (f (λ leads. false≢true (sym c.if-is_marked.false ∙ c.is_marked.ensures.1 (m.marked c.args.element leads))))))

pub returns-in-None-clause-is : goal.returns-in-None-clause-is
returns-in-None-clause-is c = λ x h m f.
    absurd (none-some x (sym (not_there c.args.chains.now c.args.element c.in-None.ensures.lookup.0) ∙ h))
