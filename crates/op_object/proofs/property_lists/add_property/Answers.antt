-- An identifier is among those that were there, or is the one that was added.
use Rattle.std.specs.Prelude.{◌≡◌, ◌||◌, ◌&&◌, ◌==◌, Bool, true, false, if◌then◌else◌, refl}
use Rattle.std.proofs.Common.{ap, ◌∙◌}
use Rattle.std.proofs.lemmas.Map.Text.{is_eq-slice_cmp}
use Rattle.std.specs.BTreeSet.{contains}
use Rattle.std.specs.Cmp.Lexicographic.{pointwise, slice_cmp}
use Rattle.std.specs.Ordering.{is_eq, nat_cmp}
use Rattle.op_object.proofs.property_lists.add_property.Goals as goal

either : (new same old : Bool) → new ≡ (if same then true else old) → new ≡ (old || same)
either new true true e = e
either new true false e = e
either new false true e = e
either new false false e = e

pub returns-in_ok-insert : goal.returns-in_ok-insert
returns-in_ok-insert c = λ q.
    let copied = c.in_ok-id.ensures in
    let same : is_eq (slice_cmp nat_cmp c.in_ok-id.id q) ≡ pointwise ◌==◌ c.args.property.now.attribute q =
    is_eq-slice_cmp c.in_ok-id.id q ∙ ap (λ id. pointwise ◌==◌ id q) copied in
    let added = c.in_ok-insert.ensures.updates.0 q in
    either (contains (slice_cmp nat_cmp) c.insert.new.self q)
    (c.args.property.now.get && pointwise ◌==◌ c.args.property.now.attribute q)
    (contains (slice_cmp nat_cmp) c.args.ids.now q)
    (added ∙ ap (λ b. if b then true else contains (slice_cmp nat_cmp) c.args.ids.now q)
    (same ∙ rw c.if-property.true refl))
