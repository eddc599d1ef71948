-- One assignment more, and what the numbers at the ends tell.
use Rattle.std.proofs.Common.{◌≡◌, ◌∙◌, arith, map, sym}
use Rattle.std.proofs.Math.Path.{subst}
use Rattle.link_graphs.specs.ChainEnds.{AreEnds}
use Rattle.asn1_names.specs.AssignmentNumbers.{assignment_count}
use Rattle.asn1_names.specs.TermViews.{module_terms}
use Rattle.asn1_numbers.specs.NumberedValues.{AreValues, IsValueLink, value_at_end}
use Rattle.asn1_numbers.proofs.HeldLaws.{PairIs, pair_none, pair_push}
use Rattle.asn1_numbers.proofs.LeadingLaws.{if_ok_by}
use Rattle.asn1_numbers.proofs.ValueLinkLaws.{values_told}
use Rattle.asn1_numbers.proofs.values.values_of.Goals as goal

pub loop-number-init : goal.loop-number-init
loop-number-init c =
    pair_none (IsValueLink (module_terms c.args.tables.now)) c.new-links.result.items c.new-own.result.items
    c.new-links.ensures.items c.new-own.ensures.items

pub loop-number-preserved : goal.loop-number-preserved
loop-number-preserved c =
    pair_push (IsValueLink (module_terms c.args.tables.now)) c.loop-number.number c.loop-number.links.items
    c.push.new.self.items c.loop-number.own.items c.push-in-loop-number.new.self.items c.value_link-link.result.0
    c.value_link-link.result.1 c.loop-number.invariant c.value_link-link.ensures c.in_ok-push.ensures.items
    c.in_ok-push-2.ensures.items

pub returns : goal.returns
returns c =
    let ms = module_terms c.args.tables.now in
    let links = c.loop-number.links.items in
    let own = c.loop-number.own.items in
    let ends = c.in_ok-ends.ends.items in
    let all : c.loop-number.number ≡ assignment_count ms =
    (let t = c.loop-number-test.false in let u = c.loop-number.auto.number-end in
    let n = c.count-number-end.ensures in omega (arith, t, u, n)) in
    let pairs : PairIs (IsValueLink ms) (assignment_count ms) links own =
    subst (λ n. PairIs (IsValueLink ms) n links own) all c.loop-number.invariant in
    let are : AreEnds links ends = subst (λ xs. AreEnds xs ends) c.deref.ensures.value c.in_ok-ends.ensures in
    if_ok_by c.values_at_ends.result
    (λ values is. subst (AreValues ms)
    (sym (is ∙ (λ i. map (value_at_end (c.deref-3.ensures.value i)) (c.deref-2.ensures.value i))))
    (values_told ms links own ends pairs are)) c.values_at_ends.ensures
