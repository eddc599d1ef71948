-- An instance is read where one is denoted.
use Rattle.std.proofs.Common.{◌≡◌, ℕ, List, [], Bool, true, false, ◌&&◌, Option, None, Some, refl, sym, ◌∙◌, ⊎_elim}
use Rattle.std.proofs.lemmas.Bool.{cases_Bool, or_parts}
use Rattle.std.specs.Prelude.{is_some, option_map, option_and_then, if◌then◌else◌}
use Rattle.term_values.specs.Beginnings.{begins}
use Rattle.term_values.specs.CmipTypes.{attribute_value_assertion, object_instance, set_of}
use Rattle.term_values.specs.Decoding.{denoted, members_in, parts_in, rising_by, sized_members, value_in}
use Rattle.term_values.specs.Der.{written}
use Rattle.term_values.specs.LeafReading.{octets_in}
use Rattle.term_values.specs.Oid.{oid_in}
use Rattle.term_values.specs.Syntaxes.{TypeParts}
use Rattle.term_values.specs.Syntaxes.TypeSyntax.{Any, ObjectIdentifier}
use Rattle.term_values.specs.Syntaxes.TypeParts.{NoParts, Part}
use Rattle.term_values.specs.Tag.{context, is_same_tag, universal}
use Rattle.term_values.specs.Tree.{TreeValue, TreeValues}
use Rattle.term_values.specs.Tree.TreeValue.{Primitive, Constructed}
use Rattle.term_values.specs.Tree.TreeValues.{Nothing, Then}
use Rattle.term_values.specs.TreeTags.{tag_of}
use Rattle.term_values.specs.Typed.{TypedSlots, TypedValue, TypedValues}
use Rattle.term_values.specs.Typed.TypedSlots.{Filled, NoSlots}
use Rattle.term_values.specs.Typed.TypedValue.{Identifier, Octets, Parts, Pick, Raw}
use Rattle.term_values.specs.Typed.TypedValues.{Then as AndValues}
use Rattle.term_values.specs.Written.{der}
use Rattle.term_values.specs.declared.tag.Tag.{Tag}
use Rattle.filter_laws.proofs.Options.{at}
use Rattle.term_model.specs.declared.name.Rdn.{Rdn}
use Rattle.term_model.specs.declared.request.Named.TheVariants as named
use Rattle.term_model.specs.declared.schema.AttrRec.{AttrRec}
use Rattle.term_model.specs.declared.schema.Set.{Set}
use Rattle.term_model.specs.InstanceNames.{are_assertions, asserted_rdn, assertion_in, assertion_parts, instance_in}
use Rattle.term_model.specs.InstanceNames.{joined_rdn, named_globally, named_in, named_locally, rdn_in, rdn_inside}
use Rattle.term_model.specs.InstanceNames.{rdns_in}
use Rattle.term_model.specs.Parts.{inside_under, oid_under, two}
use Rattle.request_laws.proofs.Options.{is_both, is_mapped, is_same_back, is_then}
use Rattle.request_laws.proofs.Parts.{chained, under_same}

-- ---- assertions

oid_same : (x : TreeValue) → is_some (oid_under (universal 6) x) ≡ is_some (denoted false ObjectIdentifier x)
oid_same (Constructed own inside) =
    ⊎_elim (λ (e : is_same_tag (universal 6) own ≡ true). rw e refl)
    (λ (e : is_same_tag (universal 6) own ≡ false). rw e refl) (cases_Bool (is_same_tag (universal 6) own))
oid_same (Primitive own contents) =
    ⊎_elim
    (λ (e : is_same_tag (universal 6) own ≡ true).
    rw (e, is_same_back own (universal 6) ∙ e) (sym (is_mapped Identifier (oid_in contents))))
    (λ (e : is_same_tag (universal 6) own ≡ false). rw (e, is_same_back own (universal 6) ∙ e) refl)
    (cases_Bool (is_same_tag (universal 6) own))

abbrev pair : TypeParts
pair = Part [] ObjectIdentifier false None (Part [] Any false None NoParts)

unbegun : (x : TreeValue) → begins ObjectIdentifier (tag_of x) ≡ false
    → is_some (oid_under (universal 6) x) ≡ false
unbegun (Constructed own inside) e = refl
unbegun (Primitive own contents) e =
    let p = or_parts (is_same_tag (universal 6) own) false e in
    rw (is_same_back own (universal 6) ∙ p.0) refl

no_second : (o : Option TypedValue)
    → is_some (option_and_then (λ v. option_map {T = TypedSlots} (Filled v) None) o) ≡ false
no_second None = refl
no_second (Some v) = refl

first_of_two : (last : TypedSlots) (o : Option TypedValue)
    → is_some (option_and_then (λ v. option_map (Filled v) (Some last)) o) ≡ is_some o
first_of_two last None = refl
first_of_two last (Some v) = refl

abbrev of_two : TreeValues → Option (List ℕ × TreeValue)
of_two xs = option_and_then assertion_parts (two xs)

two_same : (xs : TreeValues) → is_some (of_two xs) ≡ is_some (option_map Parts (parts_in pair xs))
two_same Nothing = refl
two_same (Then x Nothing) =
    ⊎_elim (λ (e : begins ObjectIdentifier (tag_of x) ≡ true).
    rw e (sym (is_mapped Parts _ ∙ no_second (denoted false ObjectIdentifier x))))
    (λ (e : begins ObjectIdentifier (tag_of x) ≡ false). rw e refl) (cases_Bool (begins ObjectIdentifier (tag_of x)))
two_same (Then x (Then y Nothing)) =
    is_mapped (λ arcs. (arcs, y)) (oid_under (universal 6) x)
    ∙ ⊎_elim (λ (e : begins ObjectIdentifier (tag_of x) ≡ true).
    rw e (oid_same x ∙ sym (is_mapped Parts _
    ∙ first_of_two (Filled (Raw (written y)) NoSlots) (denoted false ObjectIdentifier x))))
    (λ (e : begins ObjectIdentifier (tag_of x) ≡ false). rw e (unbegun x e))
    (cases_Bool (begins ObjectIdentifier (tag_of x)))
two_same (Then x (Then y (Then z zs))) =
    ⊎_elim (λ (e : begins ObjectIdentifier (tag_of x) ≡ true).
    rw e (sym (is_mapped Parts _ ∙ no_second (denoted false ObjectIdentifier x))))
    (λ (e : begins ObjectIdentifier (tag_of x) ≡ false). rw e refl) (cases_Bool (begins ObjectIdentifier (tag_of x)))

assertion_same : (x : TreeValue) → is_some (assertion_in x) ≡ is_some (value_in attribute_value_assertion x)
assertion_same x =
    (λ i. is_some (chained assertion_parts two (inside_under (universal 16) x) i))
    ∙ under_same (universal 16) of_two (λ xs. option_map Parts (parts_in pair xs)) two_same x

are_same : (xs : TreeValues)
    → are_assertions xs ≡ is_some (members_in (denoted false attribute_value_assertion) xs)
are_same Nothing = refl
are_same (Then x xs) =
    (λ i. assertion_same x i && are_same xs i)
    ∙ sym (is_both AndValues (denoted false attribute_value_assertion x)
    (members_in (denoted false attribute_value_assertion) xs))

-- ---- parts of names

pub sized : (o : Option TypedValues) → is_some (option_and_then (sized_members []) o) ≡ is_some o
sized None = refl
sized (Some members) = refl

one_there : (b : Bool) → b ≡ (b && true)
one_there true = refl
one_there false = refl

all_there : {A : Type 0} (x : A) (b : Bool) → is_some (if b then Some x else None) ≡ b
all_there x true = refl
all_there x false = refl

abbrev no_rdn : Option Rdn
no_rdn = None

inside_are : (records : List AttrRec) (xs : TreeValues) → is_some (rdn_inside records xs) ≡ are_assertions xs
inside_are records Nothing = refl
inside_are records (Then x Nothing) =
    is_mapped (asserted_rdn records) (assertion_in x) ∙ one_there (is_some (assertion_in x))
inside_are records (Then x (Then y ys)) = all_there no_rdn (are_assertions (Then x (Then y ys)))

abbrev set_in : TreeValues → Option TypedValue
set_in xs = option_and_then (sized_members []) (option_map (rising_by (der attribute_value_assertion))
    (members_in (denoted false attribute_value_assertion) xs))

rdn_same : (records : List AttrRec) (x : TreeValue)
    → is_some (rdn_in records x) ≡ is_some (value_in (set_of attribute_value_assertion) x)
rdn_same records x =
    under_same (universal 17) (rdn_inside records) set_in
    (λ xs. inside_are records xs ∙ (are_same xs
    ∙ sym (sized (option_map (rising_by (der attribute_value_assertion))
    (members_in (denoted false attribute_value_assertion) xs))
    ∙ is_mapped (rising_by (der attribute_value_assertion))
    (members_in (denoted false attribute_value_assertion) xs)))) x

rdns_same : (records : List AttrRec) (xs : TreeValues)
    → is_some (rdns_in records xs) ≡ is_some (members_in (denoted false (set_of attribute_value_assertion)) xs)
rdns_same records Nothing = refl
rdns_same records (Then x xs) =
    is_both joined_rdn (rdn_in records x) (rdns_in records xs)
    ∙ (λ i. rdn_same records x i && rdns_same records xs i)
    ∙ sym (is_both AndValues (denoted false (set_of attribute_value_assertion) x)
    (members_in (denoted false (set_of attribute_value_assertion)) xs))

abbrev names_in : TreeValues → Option TypedValue
names_in xs =
    option_and_then (sized_members []) (members_in (denoted false (set_of attribute_value_assertion)) xs)

-- ---- instances

abbrev Is : Set → TreeValues → Tag → Type 0
Is set inside tag =
    is_some (named_in set (Constructed tag inside)) ≡ is_some (value_in object_instance (Constructed tag inside))

abbrev IsPlain : Set → List ℕ → Tag → Type 0
IsPlain set contents tag =
    is_some (named_in set (Primitive tag contents)) ≡ is_some (value_in object_instance (Primitive tag contents))

name_same : (set : Set) (k : ℕ) (inside : TreeValues)
    → is_some (rdns_in set.attributes inside) ≡ is_some (option_map (Pick k) (names_in inside))
name_same set k inside =
    rdns_same set.attributes inside ∙ sym (is_mapped (Pick k) (names_in inside)
    ∙ sized (members_in (denoted false (set_of attribute_value_assertion)) inside))

named_same : (set : Set) (x : TreeValue) → is_some (named_in set x) ≡ is_some (value_in object_instance x)
named_same set (Primitive tag contents) =
    at 2 (IsPlain set contents) tag refl (λ a. at 3 (IsPlain set contents) tag refl
    (λ b. at 4 (IsPlain set contents) tag refl (λ c. rw (a, b, c) refl)))
named_same set (Constructed tag inside) =
    at 2 (Is set inside) tag
    (is_mapped (named_globally set.system) (rdns_in set.attributes inside) ∙ name_same set 0 inside)
    (λ a. at 3 (Is set inside) tag
    (is_mapped (λ octets. named.NonSpecific) (octets_in (Constructed (context 3) inside))
    ∙ sym (is_mapped (Pick 1)
    (option_and_then (λ octets. Some (Octets octets)) (octets_in (Constructed (context 3) inside)))
    ∙ is_then Octets (octets_in (Constructed (context 3) inside))))
    (λ b. at 4 (Is set inside) tag
    (is_mapped named_locally (rdns_in set.attributes inside) ∙ name_same set 2 inside)
    (λ c. rw (a, b, c) refl)))

pub instance_same : (set : Set) (x : TreeValue) → is_some (instance_in set x) ≡ is_some (value_in object_instance x)
instance_same set x =
    is_mapped (λ found. record { raw = written x; named = found }) (named_in set x) ∙ named_same set x
