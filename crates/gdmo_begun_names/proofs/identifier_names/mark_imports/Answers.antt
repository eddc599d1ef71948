-- The first module, and those behind it.
use Rattle.std.proofs.Common.{◌≡◌, rules, subst}
use Rattle.gdmo_names.specs.PartViews.{identifier_list}
use Rattle.gdmo_begun_names.specs.BegunMarks.{AnyFirst, Marks}
use Rattle.gdmo_begun_names.specs.StatedNames.{StatedFirst}
use Rattle.gdmo_begun_names.proofs.MarkLaws.{marked_end, marked_step}
use Rattle.gdmo_begun_names.proofs.StatedLaws.{marked_flat}
use Rattle.gdmo_begun_names.proofs.identifier_names.mark_imports.Goals as goal

pub loop-other-preserved : goal.loop-other-preserved
loop-other-preserved c =
    marked_step (λ y. AnyFirst StatedFirst (identifier_list y.identifier)) c.deref-other-items.result.now
    c.loop-other.other-index c.other-item.result c.loop-other-test.true c.other-item.is c.loop-other.invariant
    c.mark_maybe-in-loop-other.ensures

pub returns : goal.returns
returns c =
    let others = c.args.imports.now.others.items in
    let same : c.deref-other-items.result.now ≡ others = search rules in
    marked_flat StatedFirst (λ y. identifier_list y.identifier)
    (identifier_list c.args.imports.now.first.identifier) others c.mark_maybe.ensures
    (subst (λ ys. Marks (AnyFirst (λ y. AnyFirst StatedFirst (identifier_list y.identifier)) ys) c.mark_maybe.new.names
    c.loop-other.names) same
    (marked_end (λ y. AnyFirst StatedFirst (identifier_list y.identifier)) c.deref-other-items.result.now
    c.loop-other.other-index c.loop-other-test.false c.loop-other.invariant))
