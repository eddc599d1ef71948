-- What is told of the arcs of an identifier, by its chain.
use Rattle.std.proofs.Common.{ℕ, List, Option, subst, sym}
use Rattle.asn1_names.specs.FirstNames.{found}
use Rattle.asn1_numbers.proofs.LeadingLaws.{if_ok_by}
use Rattle.identifier_arcs.specs.ArcTexts.{text_term}
use Rattle.identifier_arcs.specs.Chains.{AreTold}
use Rattle.identifier_arcs.proofs.ChainLaws.{all_grown}
use Rattle.identifier_arcs.proofs.KnownLaws.{begun_told, told_arcs}
use Rattle.identifier_arcs.proofs.known_arcs.KnownArcs.arcs_of.Goals as goal

pub returns-clause-keeps : goal.returns-clause-keeps
returns-clause-keeps c = λ parts known. record {
  are_defined = known.are_defined;
  chains = known.chains;
  are_chains = known.are_chains;
  are_told = all_grown c.args.self.now.numbers.lists c.chain_list.new.lists known.chains
      c.args.self.now.numbers.told.items c.chain_list.ensures.grows known.are_told;
}

pub returns-clause-is : goal.returns-clause-is
returns-clause-is c =
    let own = c.args.self.now in
    let chain = c.in_ok-chain.chain in
    if_ok_by c.chain_list.result (λ answer told parts known whole stated.
    told_arcs parts (found own.defined.now) known.chains known.are_defined whole known.are_chains
    c.chain_list.new.lists (text_term c.args.text.now) chain answer (c.in_ok-chain.ensures stated)
    (told known.chains (begun_told own.numbers.lists known.chains c.as_slice.result.now chain.begin
    (subst (λ (xs : List (Option ℕ)). AreTold own.numbers.lists known.chains xs) (sym c.as_slice.ensures.value)
    known.are_told)))) c.chain_list.ensures.is
