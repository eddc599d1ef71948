-- What is found is the record at the place.
use Rattle.std.proofs.Common.{rules, ◌≡◌, None, Some, sym, ap, ◌∙◌}
use Rattle.std.specs.Prelude.{slice_get}
use Rattle.std.specs.BTreeMap.{get}
use Rattle.std.specs.Cmp.Lexicographic.{slice_cmp}
use Rattle.std.specs.Option.{option_copied}
use Rattle.std.specs.Ordering.{nat_cmp}
use Rattle.term_model.specs.declared.schema.ClassRec.{ClassRec}
use Rattle.term_model.specs.ObjectOperation.{class_record}
use Rattle.term_model.proofs.PlaceLaws.{found_at, lent}
use Rattle.term_model.proofs.class_records.ClassRecs.find.Goals as goal

pub returns-in-Some : goal.returns-in-Some
returns-in-Some c =
    let there : get (slice_cmp nat_cmp) c.self.inside.places c.args.id.now ≡ Some c.in-Some.place.now =
    sym c.get.ensures.value ∙ ap option_copied c.in-Some.is in
    let items : c.deref.result.now ≡ c.self.inside.items.items = search rules in
    let whole : c.self.inside.items.items ≡ c.args.self.now = search rules in
    lent c.deref.result.now c.in-Some.place.now c.get-in-Some.result c.get-in-Some.ensures.lookup.0
    c.get-in-Some.ensures.lookup.1
    ∙ ap (λ xs. slice_get xs c.in-Some.place.now) items
    ∙ sym (found_at (λ (of_class : ClassRec). of_class.id) c.self.inside.items.items c.args.id.now
    (Some c.in-Some.place.now)
    (sym (c.self.invariant c.args.id.now) ∙ there))
    ∙ ap (λ xs. class_record xs c.args.id.now) whole

pub returns-in-None : goal.returns-in-None
returns-in-None c =
    let there : get (slice_cmp nat_cmp) c.self.inside.places c.args.id.now ≡ None =
    sym c.get.ensures.value ∙ ap option_copied c.in-None.is in
    let whole : c.self.inside.items.items ≡ c.args.self.now = search rules in
    sym (found_at (λ (of_class : ClassRec). of_class.id) c.self.inside.items.items c.args.id.now None
    (sym (c.self.invariant c.args.id.now) ∙ there))
    ∙ ap (λ xs. class_record xs c.args.id.now) whole
