-- The pairs, where they stand.
use Rattle.std.proofs.Common.{◌≡◌, ap, map, sym}
use Rattle.std.proofs.Math.Path.{subst}
use Rattle.gdmo_names.specs.InStep.{AreAll, AreEach}
use Rattle.gdmo_names.specs.PartViews.{pair_term, pair_terms}
use Rattle.gdmo_targets.specs.SectionTables.{TellsPair}
use Rattle.linked_sections.specs.KnownSections.{IsCompletePair}
use Rattle.linked_sections.specs.LinkedSections.{IsPair}
use Rattle.linked_sections.proofs.linking_instances.optional_pairs.Goals as goal

pub returns-in_ok-linked_pairs-in-Some : goal.returns-in_ok-linked_pairs-in-Some
returns-in_ok-linked_pairs-in-Some c = λ parts document role is complete each.
    let own = c.in-Some.pairs.items in
    let linked = c.in_ok-linked_pairs-in-Some.field-0.items in
    let tells = TellsPair parts c.args.linker.now.linkage.templates.now document role in
    let view : pair_terms c.args.pairs.now ≡ map pair_term own = ap pair_terms c.in-Some.is in
    subst (λ xs. AreEach (IsPair parts document role) xs linked) (sym view)
    (subst (λ xs. AreEach (IsPair parts document role) (map pair_term xs) linked) c.as_slice.ensures.value
    (c.in_ok-linked_pairs-in-Some.ensures parts document role is
    (subst (λ xs. AreAll (IsCompletePair parts document role) (map pair_term xs)) (sym c.as_slice.ensures.value)
    (subst (AreAll (IsCompletePair parts document role)) view complete))
    (subst (λ xs. AreEach tells (map pair_term xs) c.args.targets.now) (sym c.as_slice.ensures.value)
    (subst (λ xs. AreEach tells xs c.args.targets.now) view each))))
