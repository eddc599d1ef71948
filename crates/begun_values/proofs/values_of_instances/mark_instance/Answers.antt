-- The pairs of the name, and those behind WITH.
use Rattle.std.proofs.Common.{map, refl, sym}
use Rattle.std.proofs.Math.Path.{subst}
use Rattle.gdmo_names.specs.InStep.{AreEach}
use Rattle.gdmo_names.specs.Mentions.Role.{GivenAttribute, NameAttribute}
use Rattle.gdmo_names.specs.PartViews.{instance_term, pair_term}
use Rattle.gdmo_targets.specs.SectionTables.{TellsPair}
use Rattle.gdmo_types.proofs.FieldLaws.{on_ok_by}
use Rattle.gdmo_begun_names.specs.BegunMarks.{AnyFirst, Marks}
use Rattle.gdmo_begun_names.proofs.MarkLaws.{both_marked}
use Rattle.begun_values.specs.SectionValues.{PairFirsts}
use Rattle.begun_values.proofs.values_of_instances.mark_instance.Goals as goal

pub returns : goal.returns
returns c = on_ok_by c.mark_given.result (λ marked parts document link is.
    let x = instance_term document c.args.instance.now in
    let One = TellsPair parts c.args.linkage.now.templates.now document NameAttribute in
    let Other = TellsPair parts c.args.linkage.now.templates.now document GivenAttribute in
    both_marked (AnyFirst (PairFirsts parts document NameAttribute) x.name)
    (AnyFirst (PairFirsts parts document GivenAttribute) x.given)
    (subst (λ xs. Marks (AnyFirst (PairFirsts parts document NameAttribute) (map pair_term xs)) c.args.names.now
    c.mark_pairs.new.names) c.as_slice.ensures.value
    (c.in_ok-mark_pairs.ensures parts document NameAttribute link refl
    (subst (λ xs. AreEach One (map pair_term xs) c.as_slice-2.result.now)
    (sym c.as_slice.ensures.value)
    (subst (λ ys. AreEach One x.name ys) (sym c.as_slice-2.ensures.value) is.are_name))))
    (marked parts document link (subst (λ ys. AreEach Other x.given ys)
    (sym c.as_slice-3.ensures.value) is.are_given))) c.mark_given.ensures
