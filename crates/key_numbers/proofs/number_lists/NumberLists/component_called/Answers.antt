-- A SEQUENCE, a SET, and others.
use Rattle.std.proofs.Common.{◌≡◌, ◌⊎◌, None, inl, inr}
use Rattle.std.proofs.Math.Path.{subst}
use Rattle.key_numbers.specs.ComponentKeys.{TellsComponent, beneath_key}
use Rattle.key_numbers.proofs.NameLaws.{component_beneath, component_none, component_other, component_told}
use Rattle.key_numbers.proofs.QueryLaws.{bare_beneath}
use Rattle.key_numbers.proofs.number_lists.NumberLists.component_called.Goals as goal
use Rattle.key_numbers.proofs.number_lists.NumberLists.component_called.Goals.{then-form-eq-SEQUENCE_FORM-via-then-form-eq-SEQUENCE_FORM, then-form-eq-SEQUENCE_FORM-via-else-form-eq-SEQUENCE_FORM+then-form-eq-SET_FORM}

pub returns-then-form-eq-SEQUENCE_FORM : goal.returns-then-form-eq-SEQUENCE_FORM
returns-then-form-eq-SEQUENCE_FORM c = λ name key is_name is.
    let form : (c.in-Some.form ≡ 6) ⊎ (c.in-Some.form ≡ 7) = elim c.then-form-eq-SEQUENCE_FORM.branch as
    (λ _. (c.in-Some.form ≡ 6) ⊎ (c.in-Some.form ≡ 7)) [
      | then-form-eq-SEQUENCE_FORM-via-then-form-eq-SEQUENCE_FORM w ↦ inl w.if-form-eq-SEQUENCE_FORM.true
      | then-form-eq-SEQUENCE_FORM-via-else-form-eq-SEQUENCE_FORM+then-form-eq-SET_FORM w ↦
          inr w.if-form-eq-SET_FORM.true
    ] in
    subst (λ k. TellsComponent c.args.self.now k c.part_called.result) (component_beneath name key)
    (component_told c.args.self.now c.args.called name (beneath_key key)
    (c.in-Some.form, c.in-Some.field-0-1, c.in-Some.parts) c.part_called.result is_name
    (c.in-Some.ensures.told _ (c.beneath_tags.ensures key is)) form c.part_called.ensures)

pub returns-else-form-eq-SET_FORM : goal.returns-else-form-eq-SET_FORM
returns-else-form-eq-SET_FORM c = λ name key is_name is.
    subst (λ k. TellsComponent c.args.self.now k None) (component_beneath name key)
    (component_other c.args.self.now name (beneath_key key) (c.in-Some.form, c.in-Some.field-0-1, c.in-Some.parts)
    (bare_beneath key) (c.in-Some.ensures.told _ (c.beneath_tags.ensures key is)) c.if-form-eq-SEQUENCE_FORM.false
    c.if-form-eq-SET_FORM.false)

pub returns-in-None : goal.returns-in-None
returns-in-None c = λ name key is_name is.
    subst (λ k. TellsComponent c.args.self.now k None) (component_beneath name key)
    (component_none c.args.self.now name (beneath_key key)
    (c.in-None.ensures.told _ (c.beneath_tags.ensures key is)))
