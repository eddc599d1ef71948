-- The octets of an attribute from those of its identifier and its value.
use Rattle.std.proofs.Common.{◌≡◌, ℕ, ◌+◌, ◌≤◌, Bool, true, false, ◌++◌, List, [], ◌∷◌, Option, None, Some, length}
use Rattle.std.proofs.Common.{arith, refl, sym, ap, ◌∙◌, length-append}
use Rattle.std.proofs.lemmas.Option.{none-some, same_Some}
use Rattle.std.proofs.lemmas.Slice.Eq.{bytes_eq-Decides}
use Rattle.std.specs.Option.{option_map, option_map_or}
use Rattle.term_values.specs.Der.{length_octets}
use Rattle.term_values.specs.Lengths.{counted, octet_count}
use Rattle.std.proofs.Common.{leb-true}
use Rattle.term_values.specs.Syntaxes.{TypeSyntax}
use Rattle.term_values.specs.Written.{der}
use Rattle.term_model.specs.declared.object.Attribute.{Attribute}
use Rattle.term_model.specs.declared.schema.AttrRec.{AttrRec}
use Rattle.term_model.specs.ClassAttributes.{syntax_of}
use Rattle.term_model.specs.Comparing.{is_same_oid}
use Rattle.term_model.specs.Modifications.{attribute_of}
use Rattle.term_model.specs.ObjectOperation.{attribute_record, value_octets}
use Rattle.attribute_rules.specs.Weights.{is_within}

pub octets_of : (records : List AttrRec) (attribute : Attribute) (syntax : TypeSyntax)
    → syntax_of records attribute.id ≡ Some syntax → value_octets records attribute ≡ der syntax attribute.value
octets_of records attribute syntax named = by (attribute_record records attribute.id) named
  where
    by : (o : Option AttrRec) → option_map (λ (r : AttrRec). r.syntax) o ≡ Some syntax
        → option_map_or (λ (r : AttrRec). der r.syntax attribute.value) o [] ≡ der syntax attribute.value
    by None h = absurd (none-some syntax h)
    by (Some r) h = ap (λ s. der s attribute.value) (same_Some r.syntax syntax h)

pub found_id : (attributes : List Attribute) (id : List ℕ) (held : Attribute) → attribute_of attributes id ≡ Some held
    → held.id ≡ id
found_id [] id held there = absurd (none-some held there)
found_id (x ∷ xs) id held there = by (is_same_oid x.id id) refl (found_id xs id held)
  where
    by : (b : Bool) → is_same_oid x.id id ≡ b → (attribute_of xs id ≡ Some held → held.id ≡ id) → held.id ≡ id
    by true h again =
        let first : attribute_of (x ∷ xs) id ≡ Some x = rw h refl in
        ap (λ (y : Attribute). y.id) (sym (same_Some x held (sym first ∙ there))) ∙ (bytes_eq-Decides x.id id).0 h
    by false h again =
        let later : attribute_of (x ∷ xs) id ≡ attribute_of xs id = rw h refl in
        again (sym later ∙ there)

-- two lengths together
pub both_counted : (named value contents : ℕ) (xs ys : List ℕ) → named ≡ octet_count xs → value ≡ octet_count ys
    → contents ≡ counted (named + value) → contents ≡ octet_count (xs ++ ys)
both_counted named value contents xs ys n v c = omega (arith, n, v, c, length-append xs ys)

pub below : (n : ℕ) → is_within n ≡ true → n ≤ 16384
below n h =
    let small = leb-true (1 + length (length_octets n) + n) 16384 h in
    omega arith
