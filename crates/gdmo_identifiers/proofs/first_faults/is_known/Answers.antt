-- By the names of the roots and the table of first names.
use Rattle.std.proofs.Common.{◌≡◌, ◌∙◌, ap, subst, sym, true}
use Rattle.std.specs.Prelude.{◌↔◌, ◌||◌, is_some}
use Rattle.asn1_names.specs.FirstNames.{found}
use Rattle.gdmo_names.specs.FirstNames.{root_arc}
use Rattle.gdmo_identifiers.specs.IdentifierFaults.{IsKnownName}
use Rattle.gdmo_identifiers.proofs.FirstNameLaws.{known_told}
use Rattle.gdmo_identifiers.proofs.first_faults.is_known.Goals as goal

pub returns : goal.returns
returns c = λ parts are.
    let name = c.args.name.now in
    let told = found c.args.assigned.now.defined name in
    subst (λ b. (b ≡ true) ↔ IsKnownName parts name) (sym (c.one_holds.ensures ∙
    ap (λ b. b || c.is_defined.result) c.is_root.ensures ∙
    ap (λ b. is_some (root_arc name) || b) c.is_defined.ensures)) (known_told parts name told (are.are_defined name))
