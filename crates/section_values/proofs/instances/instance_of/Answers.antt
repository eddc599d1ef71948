-- The values of the name, and those behind WITH.
use Rattle.std.proofs.Common.{sym}
use Rattle.std.proofs.Math.Path.{subst}
use Rattle.filled_syntaxes.specs.NotedTexts.{NotesTexts}
use Rattle.filled_syntaxes.proofs.NotingTexts.{both_noted}
use Rattle.linked_types.specs.PartIdentifiers.{AreEach}
use Rattle.section_values.specs.BadSections.{BadOfPairs}
use Rattle.section_values.specs.SectionRecords.{IsPairValue}
use Rattle.section_values.specs.ToldSections.{HoldsOfEach, IsGoodPair}
use Rattle.section_values.proofs.instances.instance_of.Goals as goal

pub returns-clause-told : goal.returns-clause-told
returns-clause-told c = λ ms known good.
    let linked = c.args.parts.now.linked.now in
    let named = c.as_slice.ensures.value in
    let given = c.as_slice-2.ensures.value in record {
      name_is = subst (λ xs. AreEach (IsPairValue ms linked) xs c.in_ok-name.name.items) named
          (c.in_ok-name.ensures.told ms known (subst (HoldsOfEach (IsGoodPair ms linked)) (sym named) good.of_name));
      given_is = subst (λ xs. AreEach (IsPairValue ms linked) xs c.in_ok-given.given.items) given
          (c.in_ok-given.ensures.told ms known (subst (HoldsOfEach (IsGoodPair ms linked)) (sym given) good.of_given));
    }

pub returns-clause-noted : goal.returns-clause-noted
returns-clause-noted c = λ ms known.
    let linked = c.args.parts.now.linked.now in
    let part = c.args.instance.now in
    both_noted (BadOfPairs ms linked part.document part.name.items)
    (BadOfPairs ms linked part.document part.given.items)
    (subst (λ xs. NotesTexts (BadOfPairs ms linked part.document xs) c.args.bad.now.first c.pair_values.new.bad.first)
    c.as_slice.ensures.value (c.in_ok-name.ensures.noted ms known))
    (subst (λ xs. NotesTexts (BadOfPairs ms linked part.document xs) c.pair_values.new.bad.first
    c.pair_values-2.new.bad.first) c.as_slice-2.ensures.value (c.in_ok-given.ensures.noted ms known))
