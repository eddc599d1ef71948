-- Where names may stand there, and where none may.
use Rattle.asn1_names.specs.Occurrences.{type_assigned}
use Rattle.asn1_names.specs.TermViews.{assigned_term, module_terms, type_term}
use Rattle.gdmo_types.proofs.FieldLaws.{on_ok_by}
use Rattle.begun_values.specs.DefaultNames.{DefaultFirsts, DenotedFirsts, MayFirsts}
use Rattle.begun_values.proofs.ListedLaws.{none_may}
use Rattle.begun_values.proofs.ModuleLaws.{default_may, own_defaults}
use Rattle.begun_values.proofs.module_values.mark_own_defaults.Goals as goal

pub returns-then-have_names : goal.returns-then-have_names
returns-then-have_names c = on_ok_by c.mark_type_defaults.result (λ marked ms m are is.
    own_defaults ms (module_terms c.args.modules.now.types.now) m (type_term c.type_of-of.result.now)
    (type_assigned (assigned_term c.args.assignment.now.assigned)) c.own_meaning.result are.of_types
    c.type_of-of.ensures marked (c.own_meaning.ensures ms m is)) c.mark_type_defaults.ensures

pub returns-else-have_names : goal.returns-else-have_names
returns-else-have_names c = λ ms m are is.
    let of = type_term c.type_of-of.result.now in
    let whole = type_assigned (assigned_term c.args.assignment.now.assigned) in
    none_may (DefaultFirsts MayFirsts of) (DefaultFirsts (DenotedFirsts ms m) whole) c.args.names.now
    c.have_names.result c.have_names.ensures c.if-have_names.false
    (λ t h. default_may ms m of whole t c.type_of-of.ensures h)
