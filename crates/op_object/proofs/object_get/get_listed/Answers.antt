-- What the sets tell is what the definition says.
use Rattle.std.proofs.Common.{rules, ◌≡◌, ℕ, ◌++◌, List, ap, ◌∙◌, subst}
use Rattle.std.specs.Prelude.{map}
use Rattle.term_model.specs.ObjectGet.{get_errors, given_by, got_with, has_attribute, told}
use Rattle.term_model.specs.declared.object.Object.{Object}
use Rattle.term_model.specs.ObjectOperation.{is_readable}
use Rattle.op_object.specs.IdSets.{has_id}
use Rattle.term_model.specs.Effects.{TellsEffect}
use Rattle.op_object.specs.GetSteps.{absent_errors, denied_errors, values_given}
use Rattle.op_object.proofs.GetLaws.{errors_by_sets, given_by_sets, tells_same}
use Rattle.op_object.proofs.object_get.get_listed.Goals as goal

pub returns : goal.returns
returns c =
    let schema = c.args.schema.now in
    let object = c.args.object.now in
    let asked = c.args.asked.now in
    let held = c.in_ok-held.held in
    let used = c.in_ok-sets.sets.used in
    let wanted = c.in_ok-sets.sets.members in
    let readable = c.in_ok-readable.readable in
    let attributes : c.as_slice-attributes.result.now ≡ object.attrs = search rules in
    let of_held : (q : List ℕ) → has_id held q ≡ has_attribute object.attrs q =
    λ q. c.in_ok-held.ensures q ∙ ap (λ xs. has_attribute xs q) attributes in
    let of_readable : (q : List ℕ) → has_id readable q ≡ is_readable schema object.class q =
    λ q. c.in_ok-readable.ensures q ∙ ap (λ (o : Object). is_readable schema o.class q) c.object.view_is in
    let given : c.in_ok-given.given.items ≡ map (told schema.attributes) (given_by schema object asked) =
    c.in_ok-given.ensures ∙ ap (values_given schema.attributes wanted readable) attributes
    ∙ given_by_sets schema object asked held used wanted readable of_held c.in_ok-sets.ensures.used
    c.in_ok-sets.ensures.wanted of_readable in
    let errors : c.add_denied.new.errors.items ≡ get_errors schema object asked =
    c.in_ok-add_denied.ensures
    ∙ ap (λ xs. xs ++ denied_errors wanted readable c.as_slice-attributes.result.now) c.in_ok-errors.ensures
    ∙ ap (λ xs. absent_errors held used _ asked ++ denied_errors wanted readable xs) attributes
    ∙ errors_by_sets schema object asked held used wanted readable of_held c.in_ok-sets.ensures.used
    c.in_ok-sets.ensures.wanted of_readable in
    tells_same object.class c.args.name.now c.args.time.now c.in_ok-given.given.items
    (map (told schema.attributes) (given_by schema object asked)) c.add_denied.new.errors.items
    (get_errors schema object asked) c.got_with.result given errors
    (subst
    (λ (o : Object).
    TellsEffect
    (got_with o.class c.args.name.now c.args.time.now c.in_ok-given.given.items c.add_denied.new.errors.items)
    c.got_with.result)
    c.object.view_is c.got_with.ensures)
