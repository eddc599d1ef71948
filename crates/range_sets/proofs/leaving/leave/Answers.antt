use Rattle.std.proofs.Common.{◌<◌, ◌&&◌, length, sym, subst, ap, ◌∙◌, arith, rules}
use Rattle.std.proofs.lemmas.Grind.{common_steps}
use Rattle.term_values.specs.Bounded.{one_allows}
use Rattle.range_sets.specs.RangeSets.{AreRising}
use Rattle.range_sets.proofs.LeavingLaws.{leaves_by, some_allowed}
use Rattle.range_sets.proofs.leaving.leave.Goals as goal

pub returns : goal.returns
returns c =
    let some : 0 < length c.args.before = first_of (search rules, grind (arith, common_steps)) in
    let held = subst AreRising (sym c.deref.ensures.value) c.in_ok-held.ensures.rising in
    let kept = subst AreRising (sym c.deref-2.ensures.value) c.in_ok-kept.ensures.rising in
    leaves_by _ c.args.before c.args.ranges.items c.in_ok-common.field-0.items
    (c.in_ok-common.ensures.rising held kept)
    (λ n.
    c.in_ok-common.ensures.same held kept n
    ∙ (λ i. one_allows (c.deref.ensures.value i) n && one_allows (c.deref-2.ensures.value i) n)
    ∙ (λ i. c.in_ok-held.ensures.same n i && c.in_ok-kept.ensures.same n i)
    ∙ ap (λ t. t && one_allows c.args.ranges.items n)
    (ap (λ xs. one_allows xs n) c.before-2.view_is ∙ sym (some_allowed c.args.before n some)))
    c.stated-2.ensures.stated c.stated-2.ensures.same
