-- One more name.
use Rattle.std.proofs.Common.{◌∙◌}
use Rattle.asn1_numbers.proofs.TargetLaws.{ok_by}
use Rattle.gdmo_first_names.proofs.NameSteps.{name_told}
use Rattle.gdmo_first_names.proofs.assigned_names.keep_name.Goals as goal

pub returns : goal.returns
returns c = ok_by c.keep_if.result (λ told parts has a is named are.
    name_told parts c.args.numbers.now c.args.number c.args.home a c.args.name.now c.is_definer.result
    c.args.assigned.now c.keep_if.new.assigned has is named (c.is_definer.ensures parts has a is named)
    (λ name. told.names name ∙ c.in_ok-keep_first.ensures name) told.definers told.defined are) c.keep_if.ensures
