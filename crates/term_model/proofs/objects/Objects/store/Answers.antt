use Rattle.std.proofs.Common.{rules, ◌≡◌, refl, sym, ◌∙◌, subst, Bool, List, true, false, if◌then◌else◌}
use Rattle.std.specs.Prelude.{is_ok}
use Rattle.term_model.specs.declared.objects.NamedObject.{NamedObject}
use Rattle.term_model.specs.NamedObjects.{IsByName, is_named_at}
use Rattle.term_model.proofs.MapLaws.{names_rise}
use Rattle.term_model.proofs.StoringLaws.{inserts, replaces}
use Rattle.term_model.proofs.objects.Objects.store.Goals as goal

pub returns-then-has_name_at-clause-stored : goal.returns-then-has_name_at-clause-stored
returns-then-has_name_at-clause-stored c =
    let same : c.as_slice.result.now ≡ c.args.self.now = search rules in
    let again : c.as_slice-2.result.now ≡ c.args.self.now = search rules in
    let items : c.self.inside.items.items ≡ c.args.self.now = search rules in
    let named : is_named_at c.args.self.now c.place_of-at.result c.args.entry.name ≡ true =
    rw again at (sym c.has_name_at.ensures ∙ c.if-has_name_at.true) in
    let front = rw same at c.place_of-at.ensures.front in
    rw items (replaces c.args.entry c.args.self.now c.place_of-at.result (front c.args.entry refl) named)

pub returns-clause-stored : goal.returns-clause-stored
returns-clause-stored c =
    let same : c.as_slice.result.now ≡ c.args.self.now = search rules in
    let again : c.as_slice-2.result.now ≡ c.args.self.now = search rules in
    let items : c.self.inside.items.items ≡ c.args.self.now = search rules in
    let named : is_named_at c.args.self.now c.place_of-at.result c.args.entry.name ≡ false =
    rw again at (sym c.has_name_at.ensures ∙ c.if-has_name_at.false) in
    let front = rw same at c.place_of-at.ensures.front in
    let stops = rw same at c.place_of-at.ensures.stops in
    c.in_ok-insert.ensures.items
    ∙ rw items (inserts c.args.entry c.args.self.now c.place_of-at.result (front c.args.entry refl) named stops)

pub invariant_of-self : goal.invariant_of-self
invariant_of-self c =
    let front = rw c.as_slice.ensures.value at c.place_of-at.ensures.front in
    let named = rw c.as_slice-2.ensures.value at (sym c.has_name_at.ensures ∙ c.if-has_name_at.true) in
    subst IsByName
    (sym (replaces c.args.entry c.self.inside.items.items c.place_of-at.result (front c.args.entry refl) named))
    (names_rise c.args.entry c.self.inside.items.items c.self.invariant)

either : (b : Bool) (xs ys : List NamedObject) → IsByName xs → IsByName ys → IsByName (if b then ys else xs)
either true xs ys old new = new
either false xs ys old new = old

pub invariant_of-self-2 : goal.invariant_of-self-2
invariant_of-self-2 c =
    let front = rw c.as_slice.ensures.value at c.place_of-at.ensures.front in
    let stops = rw c.as_slice.ensures.value at c.place_of-at.ensures.stops in
    let named = rw c.as_slice-2.ensures.value at (sym c.has_name_at.ensures ∙ c.if-has_name_at.false) in
    subst IsByName (sym c.insert.ensures.items)
    (either (is_ok c.insert.result) c.self.inside.items.items _ c.self.invariant
    (subst IsByName
    (sym (inserts c.args.entry c.self.inside.items.items c.place_of-at.result (front c.args.entry refl) named stops))
    (names_rise c.args.entry c.self.inside.items.items c.self.invariant)))
