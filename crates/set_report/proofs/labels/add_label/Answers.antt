-- One more identifier has a label.
use Rattle.std.proofs.Common.{◌≡◌, ℕ, List, [], ◌∷◌, false, sym, ◌∙◌, subst}
use Rattle.std.specs.BTreeMap.{get}
use Rattle.std.specs.Cmp.Lexicographic.{slice_cmp}
use Rattle.std.specs.Option.{is_some}
use Rattle.std.specs.Ordering.{nat_cmp}
use Rattle.set_report.specs.Labels.{AddsLabels}
use Rattle.set_report.proofs.LabelLaws.{label_inserted, label_stays}
use Rattle.set_report.proofs.labels.add_label.Goals as goal

pub returns-in_ok-insert : goal.returns-in_ok-insert
returns-in_ok-insert c =
    let before = c.args.labels.now in
    let after = c.insert.new.self in
    let absent : is_some (get (slice_cmp nat_cmp) before c.args.id.now) ≡ false =
    sym c.contains_key.ensures ∙ c.if-not-contains_key.true in
    let absent_copy : is_some (get (slice_cmp nat_cmp) before c.in_ok-id.id) ≡ false =
    subst (λ (id : List ℕ). is_some (get (slice_cmp nat_cmp) before id) ≡ false) (sym c.in_ok-id.ensures) absent in
    subst (λ (id : List ℕ). AddsLabels before after ((id, c.args.label.now) ∷ [])) c.in_ok-id.ensures
    (subst (λ (label : List ℕ). AddsLabels before after ((c.in_ok-id.id, label) ∷ [])) c.in_ok-copy.ensures
    (label_inserted before after c.in_ok-id.id c.in_ok-copy.field-0 absent_copy c.in_ok-insert.ensures.updates.0))

pub returns-else-not-contains_key : goal.returns-else-not-contains_key
returns-else-not-contains_key c =
    label_stays c.args.labels.now c.args.id.now c.args.label.now
    (sym c.contains_key.ensures ∙ c.if-not-contains_key.false)
