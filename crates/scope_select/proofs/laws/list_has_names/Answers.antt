use Rattle.term_model.specs.NamedObjects.{names}
use Rattle.term_model.specs.Scope.{is_within}
use Rattle.scope_select.proofs.ListLaws.{filter_gets, filter_has}
use Rattle.scope_select.proofs.PrefixLaws.{is_then_within, within_is}
use Rattle.scope_select.proofs.laws.list_has_names.Goals as goal

pub returns : goal.returns
returns c = λ objects base scope name. (
  λ h.
      let parts = filter_has (is_within base scope) (names objects) name h in
      (parts.0, within_is base scope name parts.1),
  λ h. filter_gets (is_within base scope) (names objects) name h.0 (is_then_within base scope name h.1),
)
