-- What a modification leaves, and its size: availabilityStatus of a bound log doesn't count.
use Rattle.std.proofs.Common.{◌≡◌, ℕ, ℤ, pos, ◌+◌, Bool, true, false, ◌&&◌, ◌||◌, List, [], ◌∷◌, ◌++◌, None, Some, Ok}
use Rattle.std.proofs.Common.{refl, sym, ap, ◌∙◌, get_or, set, subst}
use Rattle.std.proofs.lemmas.List.{set-get_or}
use Rattle.std.proofs.lemmas.Option.{same_Some}
use Rattle.std.specs.Prelude.{Err, OnOk, Result, codes, if◌then◌else◌, map}
use Rattle.term_values.specs.Syntaxes.{TypeSyntax}
use Rattle.term_values.specs.Typed.{TypedValue}
use Rattle.term_model.specs.declared.object.Attribute.{Attribute}
use Rattle.term_model.specs.declared.object.Object.{Object}
use Rattle.term_model.specs.declared.packages.Property.{Property}
use Rattle.term_model.specs.declared.request.Change.{Change}
use Rattle.term_model.specs.declared.schema.AttrRec.{AttrRec}
use Rattle.term_model.specs.declared.schema.Set.{Set}
use Rattle.term_model.specs.ClassAttributes.{is_labelled, property_of, syntax_of}
use Rattle.term_model.specs.Modifications.{attribute_of, failed, replaced, settled, tried_value, without_full}
use Rattle.object_modifications.specs.declared.knowing.Knowledge.{Knowledge}
use Rattle.object_modifications.specs.declared.knowing.Knowledge.TheVariants.{Untried}
use Rattle.object_modifications.specs.declared.modifying.Outcome.{Outcome}
use Rattle.object_modifications.specs.declared.settling.Modified.{Modified as Kept}
use Rattle.object_modifications.specs.Knowing.{AreKnown, IsKnown, Knows}
use Rattle.object_modifications.specs.Settling.{TellsModified, ends_full_by, freed_by, made_of}
use Rattle.object_modifications.specs.declared.seen_once.Seen.{Seen}
use Rattle.object_modifications.specs.StatusPlaces.{status_places}
use Rattle.object_modifications.specs.Trying.{ChangesAt, IsMade, IsWeighed, TellsOutcome, TellsSize}
use Rattle.object_modifications.proofs.KnowingLaws.{known_here, known_set}
use Rattle.object_modifications.proofs.StatusLaws.{mapped_places}
use Rattle.object_modifications.proofs.WeighingLaws.{found_id}
use Rattle.attribute_rules.proofs.PlaceLaws.{StandsAt, mapped_rising, stands_at}
use Rattle.attribute_rules.specs.Places.{are_rising, place_of}
use Rattle.attribute_rules.specs.Weights.{weight, weights}

silent : (records : List AttrRec) (attribute : Attribute)
    → is_labelled records (codes "availabilityStatus") attribute.id ≡ true → weight records true attribute ≡ 0
silent records attribute h = rw h refl

full_weight : (records : List AttrRec) (attribute : Attribute)
    → weight records true (without_full records attribute) ≡ weight records true attribute
full_weight records attribute = by_test (is_labelled records (codes "availabilityStatus") attribute.id) refl
  where
    by_test : (b : Bool) → is_labelled records (codes "availabilityStatus") attribute.id ≡ b
        → weight records true (without_full records attribute) ≡ weight records true attribute
    by_test true e =
        let left = without_full records attribute in
        let same : left.id ≡ attribute.id = rw e refl in
        let also : is_labelled records (codes "availabilityStatus") left.id ≡ true =
        ap (λ id. is_labelled records (codes "availabilityStatus") id) same ∙ e in
        silent records left also ∙ sym (silent records attribute e)
    by_test false e =
        let same : without_full records attribute ≡ attribute = rw e refl in
        ap (λ (one : Attribute). weight records true one) same

full_weights : (records : List AttrRec) (attributes : List Attribute)
    → weights records true (map (without_full records) attributes) ≡ weights records true attributes
full_weights records [] = refl
full_weights records (attribute ∷ others) =
    ap (λ n. n + weights records true (map (without_full records) others)) (full_weight records attribute)
    ∙ ap (λ n. weight records true attribute + n) (full_weights records others)

freed_weights : (records : List AttrRec) (bound : Bool) (id : List ℕ) (attributes : List Attribute)
    → weights records bound (freed_by records bound id attributes) ≡ weights records bound attributes
freed_weights records bound id attributes =
    by_label
    (is_labelled records (codes "maxLogSize") id || is_labelled records (codes "logFullAction") id) bound
  where
    by_label : (lab b : Bool)
        → weights records b (if lab && b then map (without_full records) attributes else attributes)
        ≡ weights records b attributes
    by_label true true = full_weights records attributes
    by_label true false = refl
    by_label false b = refl

-- that logFull is taken away leaves the identifiers
full_id : (records : List AttrRec) (attribute : Attribute) → (without_full records attribute).id ≡ attribute.id
full_id records attribute = by_test (is_labelled records (codes "availabilityStatus") attribute.id) refl
  where
    by_test : (b : Bool) → is_labelled records (codes "availabilityStatus") attribute.id ≡ b
        → (without_full records attribute).id ≡ attribute.id
    by_test true e = rw e refl
    by_test false e = rw e refl

freed_places : (records : List AttrRec) (bound : Bool) (id : List ℕ) (attributes : List Attribute)
    → status_places records 0 (freed_by records bound id attributes) ≡ status_places records 0 attributes
freed_places records bound id attributes = by_test (ends_full_by records bound id)
  where
    by_test : (b : Bool)
        → status_places records 0 (if b then map (without_full records) attributes else attributes)
        ≡ status_places records 0 attributes
    by_test true = mapped_places records (without_full records) (full_id records) 0 attributes
    by_test false = refl

freed_rising : (records : List AttrRec) (bound : Bool) (id : List ℕ) (attributes : List Attribute)
    → are_rising (freed_by records bound id attributes) ≡ are_rising attributes
freed_rising records bound id attributes = by_test (ends_full_by records bound id)
  where
    by_test : (b : Bool)
        → are_rising (if b then map (without_full records) attributes else attributes) ≡ are_rising attributes
    by_test true = mapped_rising (without_full records) (full_id records) attributes
    by_test false = refl

-- what was seen and weighed is so of the object that is left
freed_weighed : (schema : Set) (seen : Seen) (id : List ℕ) (object : Object) (size : ℕ)
    → IsWeighed schema seen object size
    → IsWeighed schema seen (record object { attrs = freed_by schema.attributes seen.bound id object.attrs }) size
freed_weighed schema seen id object size weighed = record {
  is_seen = record {
    class = weighed.is_seen.class;
    order = λ rise. freed_rising schema.attributes seen.bound id object.attrs ∙ weighed.is_seen.order rise;
    properties = weighed.is_seen.properties;
    statuses = weighed.is_seen.statuses ∙ sym (freed_places schema.attributes seen.bound id object.attrs);
  };
  sum = weighed.sum ∙ sym (freed_weights schema.attributes seen.bound id object.attrs);
  small = weighed.small;
}

-- ---- a modification that was made

pub settled_made : (schema : Set) (records : List AttrRec) (seen : Seen) (id : List ℕ) (object : Object) (size : ℕ)
    (told : List Knowledge) (attributes : List Attribute) (left : List Knowledge) → schema.attributes ≡ records
    → IsMade schema seen object size told
    → (seen.statuses.items ≡ status_places records 0 object.attrs
    → attributes ≡ freed_by records seen.bound id object.attrs)
    → ((other : Set) → (class : List ℕ) → other.attributes ≡ records
    → seen.statuses.items ≡ status_places records 0 object.attrs → AreKnown other class object.attrs told
    → AreKnown other class attributes left)
    → (attributes ≡ freed_by records seen.bound id object.attrs)
    × IsMade schema seen (record object { attrs = attributes }) size left
settled_made schema records seen id object size told attributes left same (weighed, all) freed keeps =
    let places = weighed.is_seen.statuses ∙ ap (λ rs. status_places rs 0 object.attrs) same in
    let e = freed places in
    let here : attributes ≡ freed_by schema.attributes seen.bound id object.attrs =
    e ∙ ap (λ rs. freed_by rs seen.bound id object.attrs) (sym same) in (
      e,
      (
        subst (λ xs. IsWeighed schema seen (record object { attrs = xs }) size) (sym here)
            (freed_weighed schema seen id object size weighed),
        keeps schema object.class same places all,
      ),
    )

-- the state that is left; `opened` is the one before, as its fields have it
pub settled_so : (records : List AttrRec) (seen : Seen) (id named : List ℕ) (size : ℕ) (opened before : Kept)
    (attributes : List Attribute) (left : List Knowledge) (done : List (List ℕ)) → opened ≡ before
    → (seen.statuses.items ≡ status_places records 0 opened.object.attrs
    → attributes ≡ freed_by records seen.bound id opened.object.attrs)
    → ((other : Set) → (class : List ℕ) → other.attributes ≡ records
    → seen.statuses.items ≡ status_places records 0 opened.object.attrs
    → AreKnown other class opened.object.attrs opened.knowledge.items → AreKnown other class attributes left)
    → done ≡ opened.done ++ named ∷ [] → named ≡ id → (schema : Set) → schema.attributes ≡ records
    → IsMade schema seen before.object size before.knowledge.items
    → (record {
      object = record opened.object { attrs = attributes };
      failures = opened.failures.items;
      done = done;
    } ≡ record (made_of before) {
      object = record before.object { attrs = freed_by records seen.bound id before.object.attrs };
      done = before.done ++ id ∷ [];
    })
    × IsMade schema seen (record opened.object { attrs = attributes }) size left
settled_so records seen id named size opened before attributes left done same frees keeps pushed is schema of_schema =
    subst
    (λ (k : Kept). IsMade schema seen k.object size k.knowledge.items
    → (record {
      object = record opened.object { attrs = attributes };
      failures = opened.failures.items;
      done = done;
    } ≡ record (made_of k) {
      object = record k.object { attrs = freed_by records seen.bound id k.object.attrs };
      done = k.done ++ id ∷ [];
    })
    × IsMade schema seen (record opened.object { attrs = attributes }) size left)
    same
    (λ made.
    let parts = settled_made schema records seen id opened.object size opened.knowledge.items attributes left of_schema
    made frees keeps in (
      ap
          (λ xs. record (made_of opened) { object = record opened.object { attrs = xs }; done = done }) parts.0
          ∙ ap
          (λ ids. record (made_of opened) {
            object = record opened.object { attrs = freed_by records seen.bound id opened.object.attrs };
            done = ids;
          })
          (pushed ∙ ap (λ (x : List ℕ). opened.done ++ x ∷ []) is),
      parts.1,
    ))

pub on_ok : {T E : Type 0} {P Q : Type 0} (r : Result T E) → OnOk r P → (P → Q) → OnOk r Q
on_ok (Ok x) h f = f h
on_ok (Err e) h f = tt

-- a modification that failed
pub failed_so : (schema : Set) (seen : Seen) (change : Change) (id : List ℕ) (status : ℤ) (told : Result TypedValue ℤ)
    (before after : Kept) → IsMade schema seen before.object before.size before.knowledge.items → told ≡ Err status
    → (after.object ≡ before.object) × (after.size ≡ before.size) × (after.knowledge.items ≡ before.knowledge.items)
    → made_of after ≡ failed (made_of before) change status → TellsModified schema seen before after change id told
failed_so schema seen change id status told before after made is kept noted = (
  noted ∙ ap (settled schema (made_of before) change id) (sym is),
  subst (λ (o : Object). IsMade schema seen o after.size after.knowledge.items) (sym kept.0)
      (subst (λ n. IsMade schema seen before.object n after.knowledge.items) (sym kept.1)
      (subst (IsMade schema seen before.object before.size) (sym kept.2) made)),
)

-- an attribute that has a place is there
pub some_there : (xs : List Attribute) (id : List ℕ) (place : ℕ) → place_of xs id ≡ Some place
    → (held : Attribute) × (attribute_of xs id ≡ Some held)
some_there [] id place e = absurd (cc)
some_there (x ∷ xs) id place e = (get_or (x ∷ xs) place x, (stands_at (x ∷ xs) id place e).found x)

-- ---- the attribute at a place

-- the one with the identifier stands there
pub held_there : (xs : List Attribute) (id : List ℕ) (place : ℕ) (held : Attribute) → StandsAt xs id place
    → attribute_of xs id ≡ Some held → get_or xs place held ≡ held
held_there xs id place held stands there = same_Some (get_or xs place held) held (sym (stands.found held) ∙ there)

known_as : (schema : Set) (class id : List ℕ) (x : Attribute) (syntax : TypeSyntax) (property : Property)
    (here : Knowledge) → x.id ≡ id → syntax_of schema.attributes id ≡ Some syntax
    → property_of schema class id ≡ Some property → Knows syntax property.permitted x.value here
    → IsKnown schema class x here
known_as schema class id x syntax property here same named has knows = λ s p sn pn.
    subst (λ (t : TypeSyntax). Knows t p.permitted x.value here)
    (same_Some syntax s (sym named ∙ ap (syntax_of schema.attributes) (sym same) ∙ sn))
    (subst (λ (q : Property). Knows syntax q.permitted x.value here)
    (same_Some property p (sym has ∙ ap (property_of schema class) (sym same) ∙ pn)) knows)

-- what is told there is of its value
pub known_there : (schema : Set) (seen : Seen) (object : Object) (total : ℕ) (told : List Knowledge) (id : List ℕ)
    (place : ℕ) (syntax : TypeSyntax) (property : Property) → IsMade schema seen object total told
    → place_of object.attrs id ≡ Some place → property_of schema object.class id ≡ Some property
    → syntax_of schema.attributes id ≡ Some syntax → (d : Attribute)
    → Knows syntax property.permitted (get_or object.attrs place d).value (get_or told place Untried)
known_there schema seen object total told id place syntax property made at has named d =
    let stands = stands_at object.attrs id place at in
    let held = get_or object.attrs place d in
    let same : held.id ≡ id = found_id object.attrs id held (stands.found d) in
    known_here schema object.class object.attrs told place d made.1 stands.within syntax property
    (ap (syntax_of schema.attributes) same ∙ named) (ap (property_of schema object.class) same ∙ has)

module _ (schema : Set) (seen : Seen) (before : Kept) (change : Change) (id : List ℕ) (place : ℕ)
    (syntax : TypeSyntax) (property : Property) (attributes : List Attribute) (outcome : Outcome) (held : Attribute)
    (made : IsMade schema seen before.object before.size before.knowledge.items)
    (at : place_of before.object.attrs id ≡ Some place)
    (has : property_of schema before.object.class id ≡ Some property)
    (named : syntax_of schema.attributes id ≡ Some syntax)
    (changes : ChangesAt schema.attributes seen before.size property syntax change place before.object.attrs
    attributes outcome)
    (there : attribute_of before.object.attrs id ≡ Some held) where
  abbrev xs : List Attribute
  xs = before.object.attrs

  abbrev told : Result TypedValue ℤ
  told = tried_value schema before.object change id held property syntax

  abbrev after : Attribute
  after = get_or attributes place held

  stands : StandsAt xs id place
  stands = stands_at xs id place at

  here : get_or xs place held ≡ held
  here = held_there xs id place held stands there

  came : TellsOutcome schema.attributes seen before.size property syntax change held after outcome
  came =
      subst
      (λ (x : Attribute). TellsOutcome schema.attributes seen before.size property syntax change x after outcome)
      here (changes held).1

  sized : TellsSize schema seen before.object id told held after outcome.size
  sized = came.sized schema before.object id refl there named made.0

  all_known : after.id ≡ held.id
      → AreKnown schema before.object.class attributes (set before.knowledge.items place outcome.told)
  all_known same =
      subst (λ ys. AreKnown schema before.object.class ys (set before.knowledge.items place outcome.told))
      (sym (changes held).0)
      (known_set schema before.object.class xs before.knowledge.items place after outcome.told made.1
      (known_as schema before.object.class id after syntax property outcome.told
      (same ∙ found_id xs id held there) named has came.known))

  pub was_made : (size : ℕ) → outcome.size ≡ Some size
      → (attributes ≡ replaced id after.value xs) × (told ≡ Ok after.value)
      × IsMade schema seen (record before.object { attrs = attributes }) size
      (set before.knowledge.items place outcome.told)
  was_made size is =
      let tells = subst (TellsSize schema seen before.object id told held after) is sized in
      let given : attributes ≡ replaced id after.value xs =
      (changes held).0
      ∙ ap (set xs place) (tells.1 ∙ ap (λ (x : Attribute). record x { value = after.value }) (sym here))
      ∙ sym (stands.given held after.value) in (
        given,
        tells.0,
        (
          subst (λ ys. IsWeighed schema seen (record before.object { attrs = ys }) size) (sym given) tells.2,
          all_known (ap (λ (x : Attribute). x.id) tells.1),
        ),
      )

  pub was_refused : outcome.size ≡ None
      → (attributes ≡ xs) × (told ≡ Err (pos 6))
      × IsMade schema seen (record before.object { attrs = attributes }) before.size
      (set before.knowledge.items place outcome.told)
  was_refused is =
      let tells = subst (TellsSize schema seen before.object id told held after) is sized in
      let kept : attributes ≡ xs =
      (changes held).0 ∙ ap (set xs place) (tells.1 ∙ sym here) ∙ set-get_or xs place held in (
        kept,
        tells.0,
        (
          subst (λ ys. IsWeighed schema seen (record before.object { attrs = ys }) before.size) (sym kept) made.0,
          all_known (ap (λ (x : Attribute). x.id) tells.1),
        ),
      )

-- ---- so the state behind it

-- what is told of the attribute with the identifier, by what stands at its place
abbrev Modifies : Set → Seen → Change → List ℕ → ℕ → TypeSyntax → Property → Kept → Kept → Type 0
Modifies schema seen change id place syntax property after before =
    IsMade schema seen before.object before.size before.knowledge.items → place_of before.object.attrs id ≡ Some place
    → property_of schema before.object.class id ≡ Some property → syntax_of schema.attributes id ≡ Some syntax
    → (held : Attribute) → attribute_of before.object.attrs id ≡ Some held
    → TellsModified schema seen before after change id
    (tried_value schema before.object change id held property syntax)

pub made_at : (schema : Set) (seen : Seen) (change : Change) (id : List ℕ) (place : ℕ) (syntax : TypeSyntax)
    (property : Property) (attributes : List Attribute) (outcome : Outcome) (size : ℕ) (left : List Knowledge)
    (opened before after : Kept) → opened ≡ before
    → ChangesAt schema.attributes seen opened.size property syntax change place opened.object.attrs attributes outcome
    → outcome.size ≡ Some size → left ≡ set opened.knowledge.items place outcome.told
    → ((other : Set) → other.attributes ≡ schema.attributes
    → IsMade other seen (record opened.object { attrs = attributes }) size left
    → (made_of after ≡ record (made_of opened) {
      object = record opened.object { attrs = freed_by schema.attributes seen.bound id attributes };
      done = opened.done ++ id ∷ [];
    })
    × IsMade other seen after.object after.size after.knowledge.items)
    → Modifies schema seen change id place syntax property after before
made_at schema seen change id place syntax property attributes outcome size left opened before after same changes is
    knows settles =
    subst (Modifies schema seen change id place syntax property after) same
    (λ made at has named held there.
    let parts = was_made schema seen opened change id place syntax property attributes outcome held made at has named
    changes there size is in
    let value = (get_or attributes place held).value in
    let came = settles schema refl
    (subst (IsMade schema seen (record opened.object { attrs = attributes }) size) (sym knows) parts.2) in (
      came.0
          ∙ ap
          (λ ys. record (made_of opened) {
            object = record opened.object { attrs = freed_by schema.attributes seen.bound id ys };
            done = opened.done ++ id ∷ [];
          })
          parts.0
          ∙ ap
          (λ b. record (made_of opened) {
            object =
                record opened.object { attrs = freed_by schema.attributes b id (replaced id value opened.object.attrs) };
            done = opened.done ++ id ∷ [];
          })
          made.0.is_seen.class
          ∙ ap (settled schema (made_of opened) change id) (sym parts.1),
      came.1,
    ))

pub refused_at : (schema : Set) (seen : Seen) (change : Change) (id : List ℕ) (place : ℕ) (syntax : TypeSyntax)
    (property : Property) (attributes : List Attribute) (outcome : Outcome) (left : List Knowledge)
    (opened before after : Kept) → opened ≡ before
    → ChangesAt schema.attributes seen opened.size property syntax change place opened.object.attrs attributes outcome
    → outcome.size ≡ None → left ≡ set opened.knowledge.items place outcome.told
    → (after.object ≡ record opened.object { attrs = attributes }) × (after.size ≡ opened.size)
    × (after.knowledge.items ≡ left)
    → made_of after
    ≡ failed (record (made_of opened) { object = record opened.object { attrs = attributes } }) change (pos 6)
    → Modifies schema seen change id place syntax property after before
refused_at schema seen change id place syntax property attributes outcome left opened before after same changes is
    knows kept noted =
    subst (Modifies schema seen change id place syntax property after) same
    (λ made at has named held there.
    let parts = was_refused schema seen opened change id place syntax property attributes outcome held made at has
    named changes there is in (
      noted
          ∙ ap
          (λ ys. failed (record (made_of opened) { object = record opened.object { attrs = ys } }) change (pos 6))
          parts.0
          ∙ ap (settled schema (made_of opened) change id) (sym parts.1),
      subst (λ (o : Object). IsMade schema seen o after.size after.knowledge.items) (sym kept.0)
          (subst
          (λ n. IsMade schema seen (record opened.object { attrs = attributes }) n after.knowledge.items)
          (sym kept.1)
          (subst (IsMade schema seen (record opened.object { attrs = attributes }) opened.size)
          (sym (kept.2 ∙ knows)) parts.2)),
    ))
