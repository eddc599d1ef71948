-- An INTEGER, an ENUMERATED, and others.
use Rattle.std.proofs.Common.{◌≡◌, ◌⊎◌, ◌∙◌, inl, inr}
use Rattle.key_numbers.specs.ComponentKeys.{beneath_key}
use Rattle.key_numbers.proofs.NameLaws.{number_beneath, number_none, number_other, number_told}
use Rattle.key_numbers.proofs.QueryLaws.{bare_beneath}
use Rattle.key_numbers.proofs.number_lists.NumberLists.number_called.Goals as goal
use Rattle.key_numbers.proofs.number_lists.NumberLists.number_called.Goals.{then-form-eq-INTEGER_FORM-via-then-form-eq-INTEGER_FORM, then-form-eq-INTEGER_FORM-via-else-form-eq-INTEGER_FORM+then-form-eq-ENUMERATED_FORM}

pub returns-then-form-eq-INTEGER_FORM : goal.returns-then-form-eq-INTEGER_FORM
returns-then-form-eq-INTEGER_FORM c = λ name key is_name is.
    let form : (c.in-Some.form ≡ 2) ⊎ (c.in-Some.form ≡ 3) = elim c.then-form-eq-INTEGER_FORM.branch as
    (λ _. (c.in-Some.form ≡ 2) ⊎ (c.in-Some.form ≡ 3)) [
      | then-form-eq-INTEGER_FORM-via-then-form-eq-INTEGER_FORM w ↦ inl w.if-form-eq-INTEGER_FORM.true
      | then-form-eq-INTEGER_FORM-via-else-form-eq-INTEGER_FORM+then-form-eq-ENUMERATED_FORM w ↦
          inr w.if-form-eq-ENUMERATED_FORM.true
    ] in
    number_told c.args.self.now c.args.called name (beneath_key key)
    (c.in-Some.form, c.in-Some.field-0-1, c.in-Some.names) c.has_name.result is_name
    (c.in-Some.ensures.told _ (c.beneath_tags.ensures key is)) form c.has_name.ensures ∙ number_beneath name key

pub returns-else-form-eq-ENUMERATED_FORM : goal.returns-else-form-eq-ENUMERATED_FORM
returns-else-form-eq-ENUMERATED_FORM c = λ name key is_name is.
    number_other c.args.self.now name (beneath_key key) (c.in-Some.form, c.in-Some.field-0-1, c.in-Some.names)
    (bare_beneath key) (c.in-Some.ensures.told _ (c.beneath_tags.ensures key is)) c.if-form-eq-INTEGER_FORM.false
    c.if-form-eq-ENUMERATED_FORM.false ∙ number_beneath name key

pub returns-in-None : goal.returns-in-None
returns-in-None c = λ name key is_name is.
    number_none c.args.self.now name (beneath_key key) (c.in-None.ensures.told _ (c.beneath_tags.ensures key is)) ∙
    number_beneath name key
