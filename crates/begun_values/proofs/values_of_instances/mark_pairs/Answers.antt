-- One more pair, and all of them.
use Rattle.std.proofs.Common.{sym}
use Rattle.std.proofs.Math.Path.{subst}
use Rattle.gdmo_names.specs.PartViews.{pair_term}
use Rattle.gdmo_targets.specs.SectionTables.{TellsPair}
use Rattle.gdmo_begun_names.proofs.MarkLaws.{marked_end, marked_step}
use Rattle.begun_values.specs.SectionValues.{PairFirsts}
use Rattle.begun_values.proofs.ListedLaws.{marked_map}
use Rattle.begun_values.proofs.SectionLaws.{each_target}
use Rattle.begun_values.proofs.values_of_instances.mark_pairs.Goals as goal

pub loop-k-preserved : goal.loop-k-preserved
loop-k-preserved c = λ parts document role link wanted each.
    let xs = c.args.pairs.now in
    let k = c.loop-k.k in
    let x = c.index-pairs-k.result in
    let Tells = TellsPair parts c.args.linkage.now.templates.now document role in
    marked_step (λ p. PairFirsts parts document role (pair_term p)) xs k x c.loop-k-test.true c.index-pairs-k.is
    (c.loop-k.invariant parts document role link wanted each)
    (c.in_ok-mark_attribute.ensures parts document role x.attribute link wanted
    (subst (λ n. Tells (pair_term x) n) (sym c.target_at.ensures)
    (each_target Tells pair_term xs c.args.targets.now k x each c.loop-k-test.true c.index-pairs-k.is)))

pub returns : goal.returns
returns c = λ parts document role link wanted each.
    marked_map (PairFirsts parts document role) pair_term c.args.pairs.now
    (marked_end (λ p. PairFirsts parts document role (pair_term p)) c.args.pairs.now c.loop-k.k c.loop-k-test.false
    (c.loop-k.invariant parts document role link wanted each))
