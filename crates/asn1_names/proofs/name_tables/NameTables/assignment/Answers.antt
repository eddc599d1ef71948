-- The assignment that is found under a number.
use Rattle.std.proofs.Common.{rules, ◌≡◌, ◌∙◌, ℕ, List, None, Some, Option, ap, option_map, slice_get, sym, Bor}
use Rattle.std.proofs.Math.Path.{subst}
use Rattle.std.specs.Option.{option_copied}
use Rattle.std.proofs.Common.{refl}
use Rattle.asn1_names.proofs.TableAnswers.{assignment_at, item_is}
use Rattle.asn1_names.specs.AssignmentNumbers.{Numbered, numbered_at}
use Rattle.asn1_names.specs.ModuleTables.{numbered_view}
use Rattle.asn1_names.specs.TermViews.{assigned_term, module_terms}
use Rattle.asn1_names.proofs.name_tables.NameTables.assignment.Goals as goal

pub returns-in-Some : goal.returns-in-Some
returns-in-Some c =
    let items : c.deref.result.now ≡ c.self.inside.assignments.items = search rules in
    let item : option_copied c.get.result ≡ slice_get c.self.inside.assignments.items c.args.number =
    item_is c.deref.result.now c.args.number c.get.result c.get.ensures.lookup.0 c.get.ensures.lookup.1 ∙
    ap (λ xs. slice_get xs c.args.number) items in
    let at = assignment_at c.self.inside.modules.now c.args.self.now c.self.inside.by_name c.self.inside.names.items
    c.self.inside.assignments.items c.self.view_is c.self.invariant
    c.args.number c.get.result item in
    let found : numbered_at (module_terms c.args.self.now) c.args.number ≡ Some (numbered_view c.in-Some.found.now) =
    at ∙ ap (λ r. option_map numbered_view (option_copied r)) c.in-Some.is in
    record { numbered = numbered_view c.in-Some.found.now; at = found; module_is = refl; is = refl }

pub returns-in-None : goal.returns-in-None
returns-in-None c =
    let items : c.deref.result.now ≡ c.self.inside.assignments.items = search rules in
    let item : option_copied c.get.result ≡ slice_get c.self.inside.assignments.items c.args.number =
    item_is c.deref.result.now c.args.number c.get.result c.get.ensures.lookup.0 c.get.ensures.lookup.1 ∙
    ap (λ xs. slice_get xs c.args.number) items in
    let at = assignment_at c.self.inside.modules.now c.args.self.now c.self.inside.by_name c.self.inside.names.items
    c.self.inside.assignments.items c.self.view_is c.self.invariant
    c.args.number c.get.result item in
    let absent : numbered_at (module_terms c.args.self.now) c.args.number ≡ None =
    at ∙ ap (λ r. option_map numbered_view (option_copied r)) c.in-None.is in
    absent
