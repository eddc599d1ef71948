-- An identifier is read where one is denoted.
use Rattle.std.proofs.Common.{◌≡◌, ℕ, true, false, Some, refl, sym, ◌∙◌, ⊎_elim}
use Rattle.std.proofs.lemmas.Bool.{cases_Bool}
use Rattle.std.specs.Prelude.{is_some, option_map, option_and_then}
use Rattle.term_values.specs.CmipTypes.{identifier}
use Rattle.term_values.specs.Decoding.{denoted}
use Rattle.term_values.specs.FilterTrees.{is_context}
use Rattle.term_values.specs.Octets.{integer_in}
use Rattle.term_values.specs.Oid.{oid_in}
use Rattle.term_values.specs.Tree.{TreeValue}
use Rattle.term_values.specs.Tree.TreeValue.{Primitive, Constructed}
use Rattle.term_values.specs.Typed.TypedValue.{Identifier, Int, Pick}
use Rattle.term_model.specs.declared.request.IdRef.TheVariants.{Global, Local}
use Rattle.term_model.specs.Assertions.{id_in}
use Rattle.request_laws.proofs.Options.{is_mapped, is_then}

pub id_same : (global local : ℕ) (x : TreeValue)
    → is_some (id_in global local x) ≡ is_some (denoted false (identifier global local) x)
id_same global local (Primitive tag contents) =
    ⊎_elim
    (λ (e : is_context global tag ≡ true).
    rw e (is_mapped Global (oid_in contents) ∙ sym (is_mapped (Pick 0) (option_map Identifier (oid_in contents))
    ∙ is_mapped Identifier (oid_in contents))))
    (λ (e : is_context global tag ≡ false). ⊎_elim
    (λ (f : is_context local tag ≡ true).
    rw (e, f) (is_mapped Local (integer_in contents)
    ∙ sym (is_mapped (Pick 1) (option_and_then (λ n. Some (Int n)) (integer_in contents))
    ∙ is_then Int (integer_in contents))))
    (λ (f : is_context local tag ≡ false). rw (e, f) refl)
    (cases_Bool (is_context local tag)))
    (cases_Bool (is_context global tag))
id_same global local (Constructed tag inside) =
    ⊎_elim
    (λ (e : is_context global tag ≡ true). rw e refl)
    (λ (e : is_context global tag ≡ false). ⊎_elim
    (λ (f : is_context local tag ≡ true). rw (e, f) refl)
    (λ (f : is_context local tag ≡ false). rw (e, f) refl)
    (cases_Bool (is_context local tag)))
    (cases_Bool (is_context global tag))
