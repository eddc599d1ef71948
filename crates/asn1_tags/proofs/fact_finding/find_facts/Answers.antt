-- First the types that don't contain themselves, then the others.
use Rattle.std.proofs.Common.{length, subst}
use Rattle.asn1_names.specs.AssignmentNumbers.{assignment_count}
use Rattle.asn1_names.specs.TermViews.{module_terms}
use Rattle.asn1_numbers.specs.NumberedTypes.{IsBehindNamed, MarkCyclic}
use Rattle.asn1_tags.specs.DraftFacts.{AreCounted, IsDraft}
use Rattle.asn1_tags.proofs.OrderedFacts.{are_facts}
use Rattle.asn1_tags.proofs.fact_finding.find_facts.Goals as goal

pub returns : goal.returns
returns c = let ms = module_terms c.args.numbers.now in
    let cycles = c.in_ok-cycles.cycles in
    let found = c.in_ok-found.found in
    let after = c.count_cyclic.new.nodes.items in
    let marks = subst (λ x. MarkCyclic (module_terms x) cycles.cyclic.items) c.tables.ensures
    c.in_ok-cycles.ensures.cyclic in
    let behind = subst (λ x. IsBehindNamed (module_terms x) cycles.order.items) c.tables.ensures
    c.in_ok-cycles.ensures.order in
    let is = subst (λ xs. MarkCyclic ms xs → IsBehindNamed ms cycles.order.items →
    IsDraft ms cycles.order.items (length cycles.order.items) found) c.as_slice.ensures.value
    (subst (λ ys. MarkCyclic ms c.as_slice.result.now → IsBehindNamed ms ys → IsDraft ms ys (length ys) found)
    c.as_slice-2.ensures.value c.in_ok-found.ensures) marks behind in
    let counts = subst (λ xs. MarkCyclic ms xs → AreCounted ms 0 found.nodes.items →
    AreCounted ms (assignment_count ms) after) c.as_slice-3.ensures.value
    (subst (λ x. MarkCyclic (module_terms x) c.as_slice-3.result.now →
    AreCounted (module_terms x) 0 found.nodes.items →
    AreCounted (module_terms x) (assignment_count (module_terms x)) after) c.tables-2.ensures
    c.count_cyclic.ensures) marks in
    are_facts cycles.order.items found after marks behind is counts
