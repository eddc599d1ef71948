-- The types that are permitted are those of the properties.
use Rattle.std.proofs.Common.{rules, ◌≡◌, ◌&&◌, List, subst}
use Rattle.std.specs.List.{list_all}
use Rattle.std.specs.Prelude.{IfOk}
use Rattle.term_values.specs.FitTest.{value_fits}
use Rattle.term_values.specs.Syntaxes.{TypeSyntax}
use Rattle.fitting_members.specs.declared.member_change.MemberChange.{MemberChange}
use Rattle.object_modifications.proofs.modified_values.change_members.Goals as goal

pub returns-else-change-eq-ADD_VALUES-clause-allowed : goal.returns-else-change-eq-ADD_VALUES-clause-allowed
returns-else-change-eq-ADD_VALUES-clause-allowed c =
    let value = c.remove_members.new.value in
    let slice : c.as_slice-permitted.result.now ≡ c.args.property.now.permitted = search rules in
    subst
    (λ (types : List TypeSyntax). IfOk c.remove_members.result
    (λ (came : MemberChange). came.allowed
    ≡ (value_fits c.args.syntax.now value && list_all (λ type. value_fits type value) types)))
    slice c.remove_members.ensures.allowed
