-- One assignment more.
use Rattle.std.proofs.Common.{◌≡◌, arith}
use Rattle.std.proofs.Math.Path.{subst}
use Rattle.link_graphs.specs.ChainEnds.{AreEnds}
use Rattle.asn1_names.specs.AssignmentNumbers.{assignment_count}
use Rattle.asn1_names.specs.TermViews.{module_terms}
use Rattle.asn1_numbers.specs.NumberedBases.{IsBaseLink}
use Rattle.asn1_numbers.proofs.BaseLinkLaws.{bases_told}
use Rattle.asn1_numbers.proofs.EachLaws.{EachIs, each_none, each_push}
use Rattle.asn1_numbers.proofs.LeadingLaws.{if_ok_by}
use Rattle.asn1_numbers.proofs.bases.bases_of.Goals as goal

pub loop-number-init : goal.loop-number-init
loop-number-init c =
    each_none (IsBaseLink (module_terms c.args.tables.now)) c.new-links.result.items c.new-links.ensures.items

pub loop-number-preserved : goal.loop-number-preserved
loop-number-preserved c = each_push (IsBaseLink (module_terms c.args.tables.now)) c.loop-number.number
    c.loop-number.links.items c.push.new.self.items c.base_link.result c.loop-number.invariant c.base_link.ensures
    c.in_ok-push.ensures.items

pub returns : goal.returns
returns c =
    let ms = module_terms c.args.tables.now in
    let links = c.loop-number.links.items in
    let all : c.loop-number.number ≡ assignment_count ms =
    (let t = c.loop-number-test.false in let u = c.loop-number.auto.number-end in
    let n = c.count-number-end.ensures in omega (arith, t, u, n)) in
    if_ok_by c.chain_ends.result
    (λ ends are. bases_told ms links ends.items
    (subst (λ n. EachIs (IsBaseLink ms) n links) all c.loop-number.invariant)
    (subst (λ xs. AreEnds xs ends.items) c.deref.ensures.value are)) c.chain_ends.ensures
