-- A round, and the end: no round is left, or one added nothing.
use Rattle.std.proofs.Common.{rules, ◌≡◌, ℕ, ◌+◌, ◌-◌, ◌<◌, ◌≤◌, List, length, arith, ap, sym, ◌∙◌}
use Rattle.std.specs.Prelude.{flat_map}
use Rattle.term_values.specs.declared.oid.Oid.{Oid}
use Rattle.term_model.specs.PresentPackages.{classes_above, superclasses, with_new, with_superclasses}
use Rattle.class_packages.proofs.ClassRounds.{none_left, none_new, one_round}
use Rattle.class_packages.proofs.superclasses.classes_above.Goals as goal
use Rattle.class_packages.proofs.superclasses.classes_above.Goals.{else-loop-round-test}
use Rattle.class_packages.proofs.superclasses.classes_above.Goals.{then-loop-round-test+in_ok-above+in_ok-add_new+then-as_slice-before}

pub loop-round-preserved : goal.loop-round-preserved
loop-round-preserved c =
    let n = length c.args.records.now in
    let e : c.add_new.new.found.items
    ≡ with_new c.loop-round.items.items (flat_map (superclasses c.args.records.now) c.loop-round.items.items) =
    search rules in
    let within : c.loop-round._round < n = omega (arith, c.loop-round-test.true, ap length c.as_slice-round-end.ensures)
    in
    ap (λ found. with_superclasses c.args.records.now (n - (c.loop-round._round + 1)) found) e
    ∙ sym (one_round c.args.records.now n c.loop-round._round c.loop-round.items.items within)
    ∙ c.loop-round.invariant

pub returns : goal.returns
returns c =
    let records = c.args.records.now in
    let n = length records in
    let whole = classes_above records c.args.class.now in
    elim c.loop-round-test.branch [
      | else-loop-round-test w ↦
          let past : n ≤ c.loop-round._round =
          omega (arith, w.loop-round-test.false, ap length c.as_slice-round-end.ensures)
          in
          ap (λ found. found.items) w.items-is
          ∙ none_left records n c.loop-round._round c.loop-round.items.items whole c.loop-round.invariant past
      | then-loop-round-test+in_ok-above+in_ok-add_new+then-as_slice-before w ↦
          let e : w.add_new.new.found.items
          ≡ with_new c.loop-round.items.items (flat_map (superclasses records) c.loop-round.items.items) =
          search rules in
          let same : length w.add_new.new.found.items ≡ length c.loop-round.items.items = search rules in
          ap (λ found. found.items) w.items-is
          ∙ none_new records n c.loop-round._round c.loop-round.items.items w.add_new.new.found.items whole
          c.loop-round.invariant e same
    ]
