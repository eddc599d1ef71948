-- What was copied so far.
use Rattle.std.proofs.Common.{◌≡◌, take}
use Rattle.std.specs.Prelude.{map}
use Rattle.term_model.specs.declared.name_binding.BindRec.{BindRec}
use Rattle.set_report.proofs.reporting.binding_ids.Given as goal

abbrev pub invariant-loop-binding : goal.invariant-loop-binding
invariant-loop-binding l = l.ids.items ≡ map (λ (binding : BindRec). binding.id) (take l.binding-index l.bindings)
