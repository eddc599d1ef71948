-- The objects that pass are those that the definition selects.
use Rattle.std.proofs.Common.{ap, sym, ◌∙◌, ◌≡◌, Err, Ok}
use Rattle.std.proofs.Math.Path.{subst}
use Rattle.std.specs.List.Sorted.{IsStrictlySortedBy}
use Rattle.term_model.specs.NameOrder.{name_cmp}
use Rattle.term_model.specs.NamedObjects.{names}
use Rattle.operation_model.specs.OperationChecks.{selected_by}
use Rattle.op_engine.specs.Selecting.{AreThere, IsThere, passing_by}
use Rattle.op_engine.proofs.SelectLaws.{all_there, passing_by_is, passing_hold, selected_by_rise}
use Rattle.op_engine.proofs.SmallLaws.{few_told, many_told}
use Rattle.scope_select.specs.Subtrees.{referred}
use Rattle.op_engine.proofs.selecting.selected_entries.Goals as goal

pub returns-in_ok-found-in-Ok-clause-told : goal.returns-in_ok-found-in-Ok-clause-told
returns-in_ok-found-in-Ok-clause-told g c =
    let objects = g.M.Ranged.objects c.args.mib.now in
    let schema = c.args.schema.now in
    let base = c.args.base.now in
    let head = c.args.head.now in
    let found_is : names (referred c.in_ok-found-in-Ok.found.items)
    ≡ selected_by schema objects base head.scope head.filter =
    ap names (c.in_ok-found-in-Ok.ensures ∙ ap (λ es. passing_by schema head.filter (referred es)) c.as_slice.ensures.value
    ∙ ap (passing_by schema head.filter) c.in-Ok.ensures.entries)
    ∙ passing_by_is schema objects base head.scope head.filter in
    few_told objects base head.scope (selected_by schema objects base head.scope head.filter) c.in-Ok.ensures.few
    ∙ ap Ok (sym found_is)

pub returns-in_ok-found-in-Ok-clause-rising : goal.returns-in_ok-found-in-Ok-clause-rising
returns-in_ok-found-in-Ok-clause-rising g c =
    let objects = g.M.Ranged.objects c.args.mib.now in
    let schema = c.args.schema.now in
    let base = c.args.base.now in
    let head = c.args.head.now in
    let found_is : names (referred c.in_ok-found-in-Ok.found.items)
    ≡ selected_by schema objects base head.scope head.filter =
    ap names (c.in_ok-found-in-Ok.ensures ∙ ap (λ es. passing_by schema head.filter (referred es)) c.as_slice.ensures.value
    ∙ ap (passing_by schema head.filter) c.in-Ok.ensures.entries)
    ∙ passing_by_is schema objects base head.scope head.filter in
    subst (IsStrictlySortedBy name_cmp) (sym found_is)
    (selected_by_rise schema objects base head.scope head.filter c.in-Ok.ensures.rising)

pub returns-in_ok-found-in-Ok-clause-there : goal.returns-in_ok-found-in-Ok-clause-there
returns-in_ok-found-in-Ok-clause-there g c =
    let objects = g.M.Ranged.objects c.args.mib.now in
    let schema = c.args.schema.now in
    let head = c.args.head.now in
    subst (AreThere objects)
    (sym (c.in_ok-found-in-Ok.ensures
    ∙ ap (λ es. passing_by schema head.filter (referred es)) c.as_slice.ensures.value
    ∙ ap (passing_by schema head.filter) c.in-Ok.ensures.entries))
    (passing_hold (IsThere objects) schema objects c.args.base.now head.scope head.filter
    (all_there objects c.in-Ok.ensures.rising))

pub returns-in-Err-TooMany-clause-told : goal.returns-in-Err-TooMany-clause-told
returns-in-Err-TooMany-clause-told g c =
    let objects = g.M.Ranged.objects c.args.mib.now in
    let base = c.args.base.now in
    let head = c.args.head.now in
    many_told objects base head.scope (selected_by c.args.schema.now objects base head.scope head.filter)
    (c.in-Err-TooMany.ensures.many (ap Err c.in-Err-TooMany.field-0-is)) ∙ ap Err (sym c.complexity_limitation.ensures)
