-- The size of an object as the sum of what its attributes take.
use Rattle.std.proofs.Common.{◌≡◌, ℕ, ◌+◌, ◌<◌, ◌≤◌, Bool, true, false, not, List, [], ◌∷◌, ◌++◌, length, arith}
use Rattle.std.proofs.Common.{refl, sym, ap, ◌∙◌, length-append, zero-add, Some, subst}
use Rattle.std.specs.Prelude.{filter, map, nat_le, ◌&&◌, if◌then◌else◌}
use Rattle.term_values.specs.Der.{encoded, identifier_octets, length_octets}
use Rattle.term_values.specs.Lengths.{counted, octet_count}
use Rattle.std.proofs.Common.{leb, leb-true, ◌⊎◌, inl, inr, replicate}
use Rattle.std.proofs.lemmas.List.{length-replicate}
use Rattle.std.proofs.lemmas.Bool.{false≢true}
use Rattle.std.proofs.lemmas.Bool.Decides.{leb_tells, nat_tests}
use Rattle.term_values.specs.Rearranged.{joined, rising}
use Rattle.term_values.specs.Tag.{universal}
use Rattle.term_values.specs.Typed.{TypedValue}
use Rattle.term_values.proofs.LengthCounts.{length_rising}
use Rattle.term_model.specs.declared.object.Attribute.{Attribute}
use Rattle.term_model.specs.declared.object.Object.{Object}
use Rattle.term_model.specs.declared.schema.AttrRec.{AttrRec}
use Rattle.term_model.specs.declared.schema.Set.{Set}
use Rattle.term_model.specs.BoundClasses.{is_bound_log, object_size, tells_of_records}
use Rattle.term_model.specs.Comparing.{is_same_oid}
use Rattle.term_model.specs.Modifications.{attribute_of, replaced}
use Rattle.term_model.specs.ObjectOperation.{attribute_octets}
use Rattle.attribute_rules.specs.Weights.{is_within, weight, weights}

set_length : (contents : List ℕ)
    → length (encoded true (universal 17) contents) ≡ 1 + length (length_octets (length contents)) + length contents
unfolding identifier_octets
set_length contents =
    let e = length-append (identifier_octets true (universal 17)) (length_octets (length contents) ++ contents) in
    let f = length-append (length_octets (length contents)) contents in
    omega arith

members_length : (records : List AttrRec) (bound : Bool) (attributes : List Attribute)
    → length
    (joined
    (map (attribute_octets records)
    (filter (λ (attribute : Attribute). not (bound && tells_of_records records attribute.id)) attributes)))
    ≡ weights records bound attributes
members_length records bound [] = refl
members_length records bound (attribute ∷ others) =
    by_test (bound && tells_of_records records attribute.id) (members_length records bound others)
  where
    rest : List Attribute
    rest = filter (λ (one : Attribute). not (bound && tells_of_records records one.id)) others

    by_test : (b : Bool) → length (joined (map (attribute_octets records) rest)) ≡ weights records bound others
        → length (joined (map (attribute_octets records) (if not b then attribute ∷ rest else rest)))
        ≡ (if b then 0 else length (attribute_octets records attribute)) + weights records bound others
    by_test true e = e ∙ sym (zero-add (weights records bound others))
    by_test false e =
        length-append (attribute_octets records attribute) (joined (map (attribute_octets records) rest))
        ∙ ap (λ n. length (attribute_octets records attribute) + n) e

size_by_weights : (schema : Set) (object : Object) (w : ℕ)
    → w ≡ weights schema.attributes (is_bound_log schema object.class) object.attrs
    → object_size schema object ≡ 1 + length (length_octets w) + w
size_by_weights schema object w e =
    let members =
    map (attribute_octets schema.attributes)
    (filter
    (λ (one : Attribute). not (is_bound_log schema object.class && tells_of_records schema.attributes one.id))
    object.attrs) in
    let same : length (joined (rising members)) ≡ w =
    length_rising members ∙ members_length schema.attributes (is_bound_log schema object.class) object.attrs ∙ sym e in
    set_length (joined (rising members)) ∙ ap (λ n. 1 + length (length_octets n) + n) same

-- an object is not too long where what its attributes take is within
pub within_by_weights : (schema : Set) (object : Object) (w : ℕ)
    → w ≡ weights schema.attributes (is_bound_log schema object.class) object.attrs
    → nat_le (object_size schema object) 16384 ≡ is_within w
within_by_weights schema object w e = ap (λ n. nat_le n 16384) (size_by_weights schema object w e)

-- one attribute has another value
pub replaced_weights : (records : List AttrRec) (bound : Bool) (id : List ℕ) (value : TypedValue) (held : Attribute)
    (attributes : List Attribute) → attribute_of attributes id ≡ Some held
    → weights records bound (replaced id value attributes) + weight records bound held
    ≡ weights records bound attributes + weight records bound (record held { value = value })
replaced_weights records bound id value held [] h = absurd (cc)
replaced_weights records bound id value held (attribute ∷ others) h =
    by_test (is_same_oid attribute.id id) h (λ e. replaced_weights records bound id value held others e)
  where
    here : Attribute
    here = record attribute { value = value }

    by_test : (b : Bool) → (if b then Some attribute else attribute_of others id) ≡ Some held
        → (attribute_of others id ≡ Some held
        → weights records bound (replaced id value others) + weight records bound held
        ≡ weights records bound others + weight records bound (record held { value = value }))
        → weights records bound (if b then here ∷ others else attribute ∷ replaced id value others)
        + weight records bound held
        ≡ weights records bound (attribute ∷ others) + weight records bound (record held { value = value })
    by_test true e later =
        let same : attribute ≡ held = cc in
        subst
        (λ (x : Attribute).
        weight records bound here + weights records bound others + weight records bound x
        ≡ weight records bound attribute + weights records bound others
        + weight records bound (record x { value = value })) same
        (omega arith)
    by_test false e later =
        let f = later e in
        omega arith

-- the attribute is one of those that were counted
pub held_weight : (records : List AttrRec) (bound : Bool) (id : List ℕ) (held : Attribute) (attributes : List Attribute)
    → attribute_of attributes id ≡ Some held → weight records bound held ≤ weights records bound attributes
held_weight records bound id held [] h = absurd (cc)
held_weight records bound id held (attribute ∷ others) h =
    by_test (is_same_oid attribute.id id) h (λ e. held_weight records bound id held others e)
  where
    by_test : (b : Bool) → (if b then Some attribute else attribute_of others id) ≡ Some held
        → (attribute_of others id ≡ Some held → weight records bound held ≤ weights records bound others)
        → weight records bound held ≤ weight records bound attribute + weights records bound others
    by_test true e later =
        let same : attribute ≡ held = cc in
        subst
        (λ (x : Attribute). weight records bound x ≤ weight records bound attribute + weights records bound others)
        same (omega arith)
    by_test false e later =
        let f = later e in
        omega arith

-- a count of 64 bits tells whether so many octets are within
pub counted_small : (n size : ℕ) → size ≡ counted n → is_within size ≡ true → size ≡ n
counted_small n size e h =
    let small = leb-true (1 + length (length_octets size) + size) 16384 h in
    omega arith

not_within : (k : ℕ) → 16384 < k → is_within k ≡ false
not_within k h = by_test (leb_tells (1 + length (length_octets k) + k) 16384)
  where
    by_test : ((leb (1 + length (length_octets k) + k) 16384 ≡ true) × (1 + length (length_octets k) + k ≤ 16384))
        ⊎ ((leb (1 + length (length_octets k) + k) 16384 ≡ false)
        × (16384 < 1 + length (length_octets k) + k)) → is_within k ≡ false
    by_test (inl (t, small)) = absurd (omega arith)
    by_test (inr (t, large)) = t

pub counted_within : (n size : ℕ) → size ≡ counted n → is_within n ≡ is_within size
counted_within n size e = by_order (leb_tells n 16384)
  where
    by_order : ((leb n 16384 ≡ true) × (n ≤ 16384)) ⊎ ((leb n 16384 ≡ false) × (16384 < n))
        → is_within n ≡ is_within size
    by_order (inl (t, small)) =
        let same : n ≡ size = omega arith in
        ap is_within same
    by_order (inr (t, large)) =
        let past : 16384 < size = omega arith in
        not_within n large ∙ sym (not_within size past)

-- a SET with so many contents octets is measured by its header
pub header_within : (contents result : ℕ) → contents ≤ 16384
    → ((octets : List ℕ) → contents ≡ octet_count octets → result ≡ octet_count (encoded true (universal 17) octets))
    → leb result 16384 ≡ is_within contents
header_within contents result small tells =
    let octets : List ℕ = replicate contents 0 in
    let long : length octets ≡ contents = length-replicate contents 0 in
    let e : result ≡ octet_count (encoded true (universal 17) octets) = tells octets (omega arith) in
    let f : length (encoded true (universal 17) octets)
    ≡ 1 + length (length_octets contents) + contents =
    set_length octets ∙ ap (λ n. 1 + length (length_octets n) + n) long in
    ap (λ n. leb n 16384) (e ∙ ap counted f) ∙ level (1 + length (length_octets contents) + contents)
  where
    level : (n : ℕ) → leb (counted n) 16384 ≡ leb n 16384
    level n = grind (arith, nat_tests)

-- a count of what the attributes of an object take tells whether it is too long
size_told : (schema : Set) (object : Object) (bound : Bool) (size : ℕ) → bound ≡ is_bound_log schema object.class
    → size ≡ counted (weights schema.attributes bound object.attrs)
    → leb (object_size schema object) 16384 ≡ is_within size
size_told schema object bound size class sum =
    let octets : ℕ = weights schema.attributes bound object.attrs in
    let same : octets ≡ weights schema.attributes (is_bound_log schema object.class) object.attrs =
    ap (λ b. weights schema.attributes b object.attrs) class in
    within_by_weights schema object octets same ∙ counted_within octets size sum

pub size_small : (schema : Set) (object : Object) (bound : Bool) (size : ℕ) (found : Bool)
    → bound ≡ is_bound_log schema object.class → size ≡ counted (weights schema.attributes bound object.attrs)
    → found ≡ is_within size → found ≡ true → object_size schema object ≤ 16384
size_small schema object bound size found class sum told h =
    leb-true (object_size schema object) 16384 (size_told schema object bound size class sum ∙ sym told ∙ h)

pub size_large : (schema : Set) (object : Object) (bound : Bool) (size : ℕ) (found : Bool)
    → bound ≡ is_bound_log schema object.class → size ≡ counted (weights schema.attributes bound object.attrs)
    → found ≡ is_within size → found ≡ false → 16384 < object_size schema object
size_large schema object bound size found class sum told h =
    by_test (leb_tells (object_size schema object) 16384)
  where
    longer : leb (object_size schema object) 16384 ≡ false
    longer = size_told schema object bound size class sum ∙ sym told ∙ h

    by_test : ((leb (object_size schema object) 16384 ≡ true) × (object_size schema object ≤ 16384))
        ⊎ ((leb (object_size schema object) 16384 ≡ false) × (16384 < object_size schema object))
        → 16384 < object_size schema object
    by_test (inl (t, small)) = absurd (false≢true (sym longer ∙ t))
    by_test (inr (t, large)) = large
