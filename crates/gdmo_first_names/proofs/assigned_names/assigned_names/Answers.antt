-- The names of the same modules.
use Rattle.std.proofs.Common.{◌∙◌, sym}
use Rattle.std.proofs.Math.Path.{subst}
use Rattle.asn1_numbers.proofs.LeadingLaws.{if_ok_by}
use Rattle.gdmo_first_names.specs.ReadModules.{HasModules}
use Rattle.gdmo_first_names.proofs.assigned_names.assigned_names.Goals as goal

pub returns : goal.returns
returns c = if_ok_by c.all_names.result (λ assigned told parts has.
    told parts (subst (HasModules parts) (sym (c.in_ok-numbers.ensures ∙ (c.in_ok-own.ensures ∙ c.modules.ensures))) has))
    c.all_names.ensures
