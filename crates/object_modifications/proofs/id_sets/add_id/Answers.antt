-- An identifier is among those that were there, or is the one that was added.
use Rattle.std.specs.Prelude.{◌≡◌, ◌||◌, ◌==◌, Bool, true, false, if◌then◌else◌}
use Rattle.std.proofs.Common.{ap, ◌∙◌}
use Rattle.std.proofs.lemmas.Map.Text.{is_eq-slice_cmp}
use Rattle.std.specs.BTreeSet.{contains}
use Rattle.std.specs.Cmp.Lexicographic.{pointwise, slice_cmp}
use Rattle.std.specs.Ordering.{is_eq, nat_cmp}
use Rattle.object_modifications.proofs.id_sets.add_id.Goals as goal

either : (new same old : Bool) → new ≡ (if same then true else old) → new ≡ (old || same)
either new true true e = e
either new true false e = e
either new false true e = e
either new false false e = e

pub returns : goal.returns
returns c = λ q.
    let before = contains (slice_cmp nat_cmp) c.args.ids.now q in
    let same : is_eq (slice_cmp nat_cmp c.in_ok-id.id q) ≡ pointwise ◌==◌ c.args.id.now q =
    is_eq-slice_cmp c.in_ok-id.id q ∙ ap (λ id. pointwise ◌==◌ id q) c.in_ok-id.ensures in
    either (contains (slice_cmp nat_cmp) c.insert.new.self q) (pointwise ◌==◌ c.args.id.now q) before
    (c.in_ok-insert.ensures.updates.0 q ∙ ap (λ b. if b then true else before) same)
