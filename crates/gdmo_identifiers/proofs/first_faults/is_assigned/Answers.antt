-- By the table of the names that are assigned.
use Rattle.std.proofs.Common.{◌≡◌, ◌∙◌, ap, subst, sym, true}
use Rattle.std.specs.Prelude.{◌↔◌, ◌||◌, is_some}
use Rattle.asn1_names.specs.FirstNames.{found}
use Rattle.gdmo_names.specs.FirstNames.{IsAssigned}
use Rattle.gdmo_identifiers.proofs.FirstNameLaws.{assigned_told}
use Rattle.gdmo_identifiers.proofs.first_faults.is_assigned.Goals as goal

pub returns : goal.returns
returns c = λ parts are.
    let name = c.args.name.now in
    let told = found c.args.assigned.now.names name in
    subst (λ b. (b ≡ true) ↔ IsAssigned parts name) (sym (c.one_holds.ensures ∙
    ap (λ b. b || c.is_standard.result) c.has_name.ensures ∙
    ap (λ b. is_some told || b) c.is_standard.ensures)) (assigned_told parts name told (are.are_assigned name))
