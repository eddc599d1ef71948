-- One modification by the size that is kept.
use Rattle.std.proofs.Common.{◌≡◌, ℕ, pos, ◌+◌, ◌-◌, Bool, true, false, ◌&&◌, List, length}
use Rattle.std.proofs.Common.{None, Some, Ok, Err, sym, refl, ap, ◌∙◌, arith, leb, subst}
use Rattle.std.specs.Prelude.{nat_le, IfOk, Result}
use Rattle.std.proofs.lemmas.Bool.{and_parts}
use Rattle.std.proofs.lemmas.Bool.Decides.{nat_tests}
use Rattle.term_values.specs.FitTest.{value_fits}
use Rattle.term_values.specs.Lengths.{counted, octet_count}
use Rattle.term_values.specs.Syntaxes.{TypeSyntax}
use Rattle.term_values.specs.Typed.{TypedValue}
use Rattle.term_values.specs.Written.{der}
use Rattle.fitting_members.specs.MemberLengths.{members_length}
use Rattle.term_model.specs.declared.name.Rdn.{Rdn}
use Rattle.term_model.specs.declared.object.Attribute.{Attribute}
use Rattle.term_model.specs.declared.object.Object.{Object}
use Rattle.term_model.specs.declared.packages.Property.{Property}
use Rattle.term_model.specs.declared.request.Change.{Change}
use Rattle.term_model.specs.declared.schema.AttrRec.{AttrRec}
use Rattle.term_model.specs.declared.schema.Set.{Set}
use Rattle.term_model.specs.BoundClasses.{object_size}
use Rattle.term_model.specs.ClassAttributes.{is_permitted, syntax_of}
use Rattle.term_model.specs.Modifiable.{is_operator, modifiable}
use Rattle.term_model.specs.Modifications.{attribute_of, may_have, modified_value, replaced, tried, tried_value}
use Rattle.object_modifications.specs.declared.knowing.Knowledge.{Knowledge}
use Rattle.object_modifications.specs.declared.seen_once.Seen.{Seen}
use Rattle.object_modifications.specs.Knowing.{Counts, Knows}
use Rattle.object_modifications.specs.Trying.{IsSeen, IsWeighed, TellsOutcome, TellsSize, TellsWith}
use Rattle.object_modifications.proofs.KnowingLaws.{known_fit}
use Rattle.object_modifications.proofs.StatusLaws.{replaced_places}
use Rattle.object_modifications.proofs.WeighingLaws.{below, found_id}
use Rattle.attribute_rules.proofs.PlaceLaws.{replaced_rising}
use Rattle.attribute_rules.specs.Weights.{is_within, weight, weights}
use Rattle.attribute_rules.proofs.WeightLaws.{counted_small, counted_within, held_weight, replaced_weights}
use Rattle.attribute_rules.proofs.WeightLaws.{within_by_weights}

-- two tests together, by what was told of them
pub both_hold : (a b x y : Bool) → x ≡ a → y ≡ b → x ≡ true → y ≡ true → (a && b) ≡ true
both_hold true true x y e f h k = refl
both_hold true false x y e f h k = sym f ∙ k
both_hold false b x y e f h k = sym e ∙ h

pub first_fails : (a b x : Bool) → x ≡ a → x ≡ false → (a && b) ≡ false
first_fails a b x e h = ap (λ t. t && b) (sym e ∙ h)

pub second_fails : (a b y : Bool) → y ≡ b → y ≡ false → (a && b) ≡ false
second_fails true b y f k = sym f ∙ k
second_fails false b y f k = refl

-- what was seen is so of an object in which an attribute has another value
pub still_seen : (schema : Set) (object : Object) (seen : Seen) (id : List ℕ) (value : TypedValue)
    → IsSeen schema object seen → IsSeen schema (record object { attrs = replaced id value object.attrs }) seen
still_seen schema object seen id value is = record {
  class = is.class;
  order = λ rise. replaced_rising id value object.attrs ∙ is.order rise;
  properties = is.properties;
  statuses = is.statuses ∙ sym (replaced_places schema.attributes 0 id value object.attrs);
}

-- a count of 64 bits tells whether a value is too long
level : (n : ℕ) → leb (counted n) 8192 ≡ leb n 8192
level n = grind (arith, nat_tests)

grouped : (a b c : Bool) → (a && b && c) ≡ (a && (b && c))
grouped true b c = refl
grouped false b c = refl

module _ (schema : Set) (object : Object) (change : Change) (held : Attribute) (property : Property)
    (syntax : TypeSyntax) (value : TypedValue) (seen : Seen) (total long size : ℕ) (id : List ℕ)
    (there : attribute_of object.attrs id ≡ Some held) (weighed : IsWeighed schema seen object total)
    (known : modified_value syntax property held.value change ≡ Some value)
    (measured : long ≡ octet_count (der syntax value))
    (sum : size ≡ counted (total - counted (weight schema.attributes seen.bound held)
    + counted (weight schema.attributes seen.bound (record held { value = value })))) where
  abbrev after : Object
  after = record object { attrs = replaced id value object.attrs }

  abbrev left : ℕ
  left =
      total - weight schema.attributes seen.bound held
      + weight schema.attributes seen.bound (record held { value = value })

  left_counted : size ≡ counted left
  left_counted =
      let within = held_weight schema.attributes seen.bound id held object.attrs there in
      let few = below total weighed.small in
      let all = weighed.sum in
      omega (arith, sum)

  whole : left ≡ weights schema.attributes seen.bound (replaced id value object.attrs)
  whole =
      let changed = replaced_weights schema.attributes seen.bound id value held object.attrs there in
      let within = held_weight schema.attributes seen.bound id held object.attrs there in
      let all = weighed.sum in
      omega arith

  size_told : nat_le (object_size schema after) 16384 ≡ is_within size
  size_told =
      within_by_weights schema after left
      (whole ∙ ap (λ b. weights schema.attributes b (replaced id value object.attrs)) weighed.is_seen.class)
      ∙ counted_within left size left_counted

  abbrev fits : Bool
  fits = value_fits syntax value && is_permitted property.permitted value

  may : may_have schema object syntax property id value ≡ (fits && (nat_le long 8192 && is_within size))
  may =
      ap (λ b. fits && nat_le (length (der syntax value)) 8192 && b) size_told
      ∙ ap (λ b. fits && b && is_within size)
      (sym (ap (λ n. nat_le n 8192) measured ∙ level (length (der syntax value))))
      ∙ grouped fits (nat_le long 8192) (is_within size)

  pub refused : (fits && (nat_le long 8192 && is_within size)) ≡ false
      → tried_value schema object change id held property syntax ≡ Err (pos 6)
  refused h = rw (known, may ∙ h) refl

  pub allowed : (fits && (nat_le long 8192 && is_within size)) ≡ true
      → TellsSize schema seen object id (tried_value schema object change id held property syntax) held
      (record held { value = value }) (Some size)
  allowed h =
      let fit = (and_parts (nat_le long 8192) (is_within size)
      (and_parts fits (nat_le long 8192 && is_within size) h).1).1 in (
        rw (known, may ∙ h) refl,
        refl,
        record {
          is_seen = still_seen schema object seen id value weighed.is_seen;
          sum = counted_small left size left_counted fit ∙ whole;
          small = fit;
        },
      )

-- ---- in any object that has the attribute

module _ (records : List AttrRec) (seen : Seen) (total : ℕ) (property : Property) (syntax : TypeSyntax)
    (change : Change) (held : Attribute) (value : TypedValue) (before long size : ℕ)
    (known : modified_value syntax property held.value change ≡ Some value)
    (was : before ≡ octet_count (der syntax held.value)) (measured : long ≡ octet_count (der syntax value))
    (told : TellsWith records seen total held.id before long size) where
  abbrev stands : Bool
  stands =
      value_fits syntax value && is_permitted property.permitted value && (nat_le long 8192 && is_within size)

  sized : (schema : Set) (object : Object) (id : List ℕ) → schema.attributes ≡ records
      → attribute_of object.attrs id ≡ Some held → syntax_of records id ≡ Some syntax
      → size ≡ counted (total - counted (weight schema.attributes seen.bound held)
      + counted (weight schema.attributes seen.bound (record held { value = value })))
  sized schema object id same there named =
      subst
      (λ (rs : List AttrRec). size ≡ counted (total - counted (weight rs seen.bound held)
      + counted (weight rs seen.bound (record held { value = value }))))
      (sym same)
      (told syntax held value refl (ap (syntax_of records) (found_id object.attrs id held there) ∙ named) was measured)

  pub outcome_made : (here : Knowledge) → stands ≡ true → Counts (members_length syntax value) here
      → TellsOutcome records seen total property syntax change held (record held { value = value })
      (record { size = Some size; told = here })
  outcome_made here h counts =
      let fit = and_parts (value_fits syntax value) (is_permitted property.permitted value)
      (and_parts (value_fits syntax value && is_permitted property.permitted value)
      (nat_le long 8192 && is_within size) h).0 in
      record {
        sized = λ schema object id same there named weighed.
            allowed schema object change held property syntax value seen total long size id there weighed known
            measured (sized schema object id same there named) h;
        known = known_fit syntax property.permitted value here fit.0 fit.1 counts;
      }

  pub outcome_refused : (here : Knowledge) (now : Attribute) → stands ≡ false → now ≡ held
      → Knows syntax property.permitted held.value here
      → TellsOutcome records seen total property syntax change held now (record { size = None; told = here })
  outcome_refused here now h same knows = record {
    sized = λ schema object id is there named weighed. (
      refused schema object change held property syntax value seen total long size id there weighed known
          measured (sized schema object id is there named) h,
      same,
    );
    known = subst (λ (x : Attribute). Knows syntax property.permitted x.value here) (sym same) knows;
  }

-- no value is told, or one that doesn't fit or isn't permitted
pub none_told : (records : List AttrRec) (seen : Seen) (total : ℕ) (property : Property) (syntax : TypeSyntax)
    (change : Change) (held : Attribute) (here : Knowledge) → modified_value syntax property held.value change ≡ None
    → Knows syntax property.permitted held.value here
    → TellsOutcome records seen total property syntax change held held (record { size = None; told = here })
none_told records seen total property syntax change held here none knows = record {
  sized = λ schema object id same there named weighed. (rw none refl, refl);
  known = knows;
}

pub none_fits : (records : List AttrRec) (seen : Seen) (total : ℕ) (property : Property) (syntax : TypeSyntax)
    (change : Change) (held : Attribute) (here : Knowledge) (value : TypedValue)
    → modified_value syntax property held.value change ≡ Some value
    → (value_fits syntax value && is_permitted property.permitted value) ≡ false
    → Knows syntax property.permitted held.value here
    → TellsOutcome records seen total property syntax change held held (record { size = None; told = here })
none_fits records seen total property syntax change held here value known misfits knows = record {
  sized = λ schema object id same there named weighed. (rw (known, misfits) refl, refl);
  known = knows;
}

-- an attribute that isn't there
pub tried_absent : (schema : Set) (name : List Rdn) (object : Object) (change : Change) (id : List ℕ)
    → attribute_of object.attrs id ≡ None → tried schema name object change id ≡ Err (pos 5)
tried_absent schema name object change id none = rw none refl

-- one that is there, by an operator that there isn't, that managers may not use, or without a syntax
pub tried_misoperated : (schema : Set) (name : List Rdn) (object : Object) (change : Change) (id : List ℕ)
    (held : Attribute) → attribute_of object.attrs id ≡ Some held → is_operator change.operator ≡ false
    → tried schema name object change id ≡ Err (pos 25)
tried_misoperated schema name object change id held a o = rw (a, o) refl

pub tried_unmodifiable : (schema : Set) (name : List Rdn) (object : Object) (change : Change) (id : List ℕ)
    (held : Attribute) → attribute_of object.attrs id ≡ Some held → is_operator change.operator ≡ true
    → modifiable schema name object.class change.operator id ≡ None
    → tried schema name object change id ≡ Err (pos 24)
tried_unmodifiable schema name object change id held a o m = rw (a, o, m) refl

pub tried_without : (schema : Set) (name : List Rdn) (object : Object) (change : Change) (id : List ℕ)
    (held : Attribute) (property : Property) → attribute_of object.attrs id ≡ Some held
    → is_operator change.operator ≡ true
    → modifiable schema name object.class change.operator id ≡ Some property
    → syntax_of schema.attributes id ≡ None → tried schema name object change id ≡ Err (pos 6)
tried_without schema name object change id held property a o m s = rw (a, o, m, s) refl

pub tried_is : (schema : Set) (name : List Rdn) (object : Object) (change : Change) (id : List ℕ) (held : Attribute)
    (property : Property) (syntax : TypeSyntax) → attribute_of object.attrs id ≡ Some held
    → is_operator change.operator ≡ true
    → modifiable schema name object.class change.operator id ≡ Some property
    → syntax_of schema.attributes id ≡ Some syntax
    → tried schema name object change id ≡ tried_value schema object change id held property syntax
tried_is schema name object change id held property syntax a o m s = rw (a, o, m, s) refl

pub if_ok_then : {T E : Type 0} {A B : T → Type 0} (r : Result T E) → ((x : T) → A x → B x) → IfOk r A → IfOk r B
if_ok_then (Ok x) f h = f x h
if_ok_then (Err e) f h = tt
