-- The table has the name, or is told it.
use Rattle.std.proofs.Common.{◌≡◌, ◌∙◌, true, sym}
use Rattle.std.proofs.Math.Path.{subst}
use Rattle.asn1_names.specs.FirstNames.{found}
use Rattle.gdmo_names.specs.FirstLabelFault.LabelFault.{LabelDouble}
use Rattle.gdmo_names.proofs.NotingLaws.{one_not, one_there}
use Rattle.gdmo_types.specs.ModuleNames.{has_name}
use Rattle.gdmo_types.proofs.ModuleNameLaws.{gained, got_none, got_some}
use Rattle.gdmo_types.proofs.module_names.note_name.Goals as goal

pub returns-then-is_some-clause-faults : goal.returns-then-is_some-clause-faults
returns-then-is_some-clause-faults c = one_there (subst (λ key. has_name c.args.names.now key ≡ true)
    c.as_slice-text.ensures (got_some c.get.result (found c.args.names.now c.as_slice-text.result.now)
    c.get.ensures.value (sym c.is_some.ensures ∙ c.if-is_some.true))) c.note.ensures

pub returns-clause-names : goal.returns-clause-names
returns-clause-names c =
    gained c.args.names.now c.insert.new.self c.args.name.now.text c.as_slice-text.result.now _
    c.as_slice-text.ensures (λ other. c.in_ok-insert.ensures.updates.0 (record { ref_ptr = (0, 0); now = other }))

pub returns-clause-faults : goal.returns-clause-faults
returns-clause-faults c = one_not LabelDouble c.args.document c.args.name.now.at c.args.faults.now.first
    (subst (λ key. ¬ (has_name c.args.names.now key ≡ true)) c.as_slice-text.ensures
    (got_none c.get.result (found c.args.names.now c.as_slice-text.result.now) c.get.ensures.value
    (sym c.is_some.ensures ∙ c.if-is_some.false)))
