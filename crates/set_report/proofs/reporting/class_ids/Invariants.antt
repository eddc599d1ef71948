-- What was copied so far.
use Rattle.std.proofs.Common.{◌≡◌, take}
use Rattle.std.specs.Prelude.{map}
use Rattle.term_model.specs.declared.schema.ClassRec.{ClassRec}
use Rattle.set_report.proofs.reporting.class_ids.Given as goal

abbrev pub invariant-loop-of_class : goal.invariant-loop-of_class
invariant-loop-of_class l = l.ids.items ≡ map (λ (of_class : ClassRec). of_class.id) (take l.of_class-index l.classes)
