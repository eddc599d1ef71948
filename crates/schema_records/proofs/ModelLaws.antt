-- ModelLaws: what is joined of an attribute for a class, over the statements that reach the class, is what its record
-- has over the properties of the records above (X.722, sections 5.2 and 8.4; docs/PROFILE.md, section 18).
use Rattle.std.proofs.Common.{◌≡◌, ◌≢◌, ◌⊎◌, ◌<◌, ◌∙◌, ℕ, List, Option, None, Some, ap, arith, false, get_or, inl, inr}
use Rattle.std.proofs.Common.{length, map, refl, sym, true, ⊎_elim}
use Rattle.std.specs.Prelude.{◌==◌, ◌↔◌, ◌||◌, All, AllPairs, Bool, Contains, option_and_then, slice_get}
use Rattle.std.specs.BTreeMap.{get}
use Rattle.std.specs.BTreeSet.{BTreeSet, contains}
use Rattle.std.specs.Ordering.{nat_cmp}
use Rattle.std.proofs.Math.Path.{subst}
use Rattle.std.proofs.lemmas.Bool.{eqb-true}
use Rattle.std.proofs.lemmas.Cmp.{nat_cmp_total}
use Rattle.std.proofs.lemmas.Map.Entries.{btree_map_get_place}
use Rattle.std.proofs.lemmas.Map.Lookups.{exact_unsigned}
use Rattle.std.proofs.lemmas.Map.Views.{btree_map_get_iff}
use Rattle.std.proofs.lemmas.Option.{same_Some, slice_get_within}
use Rattle.typed_laws.proofs.SameIs.{same_is}
use Rattle.term_values.specs.SameValue.{same_value}
use Rattle.term_values.specs.Syntaxes.{TypeSyntax}
use Rattle.term_values.specs.Typed.{TypedValue}
use Rattle.term_model.specs.Inheritance.{Derives, HasRecord}
use Rattle.term_model.specs.JoinedProperties.{HasJoined, Holds, IsJoined, OwnStates, SomeStates, States}
use Rattle.term_model.specs.JoinedProperties.Holds.{Inherited, Own}
use Rattle.term_model.specs.declared.packages.Property.{Property}
use Rattle.term_model.specs.declared.schema.ClassRec.{ClassRec}
use Rattle.joined_statements.specs.HeldValues.{are_equal, are_same, value_at}
use Rattle.joined_statements.specs.JoinedStatements.{Attributes, Values}
use Rattle.joined_statements.specs.declared.held.Held.{Held}
use Rattle.joined_statements.specs.declared.held.Held.TheVariants.{NoValue, Nothing, One, Unequal}
use Rattle.joined_statements.specs.declared.joined.Joined.{Joined}
use Rattle.joined_properties.specs.ClassProperties.{ArePropertiesOfAll, AreProperties, IsJoinedOver, has}
use Rattle.joined_properties.specs.ClassProperties.Property.{Add, Get, Permitted, Remove, Replace, Required, SetToDefault}
use Rattle.joined_properties.specs.HeldNumbers.{HoldsNumber}
use Rattle.joined_properties.specs.HeldNumbers.HoldsNumber.{inherited, own}
use Rattle.joined_properties.specs.NumberSummaries.{IsSummary}
use Rattle.joined_properties.specs.OwnStatements.{OwnStatement}
use Rattle.joined_properties.specs.ReachedStatements.{HasSuch}
use Rattle.joined_properties.specs.declared.statement.Statement.{Statement}
use Rattle.linked_parts.specs.declared.linked.LinkedAttribute.{LinkedAttribute}
use Rattle.linked_parts.specs.declared.linked.LinkedClass.{LinkedClass}
use Rattle.linked_types.specs.KnownParts.{identifier_at}
use Rattle.linked_types.specs.PartIdentifiers.{AreEach, IsAttributeId}
use Rattle.schema_records.specs.ApartParts.{AreApart, HoldsNoneUnequal}
use Rattle.schema_records.specs.PropertyRecords.{AreJoinedProperties, IsJoinedProperty, held_value, type_name}
use Rattle.schema_records.specs.PropertyRecords.{type_syntax}
use Rattle.schema_records.proofs.ClassLaws.{AreModelled, HasAbove, IsOwnProperty, IsOwnSaid, IsRecordAt, IsSaid}
use Rattle.schema_records.proofs.ClassLaws.{HasSaid, IsSuperclass, above_at, at_contains, contains_at, each_at}
use Rattle.schema_records.proofs.ClassLaws.{each_from, is_known, one_record, own_property, own_said, said_states}
use Rattle.schema_records.proofs.ClassLaws.{states_said, superclass_of}
use Rattle.schema_records.proofs.StatedLaws.{HasFound, IsHeld, SayOne, default_held, held_nothing, held_number}
use Rattle.schema_records.proofs.StatedLaws.{held_value_of, initial_held, joined_found, nothing_held, permitted_said}
use Rattle.schema_records.proofs.StatedLaws.{required_said}

-- ---- equal values

or_cases : (a b : Bool) → (a || b) ≡ true → (a ≡ true) ⊎ (b ≡ true)
or_cases true b is = inl refl
or_cases false b is = inr is

equal_value : (one other : Option TypedValue) (value : TypedValue) → are_equal one other ≡ true →
    other ≡ Some value → one ≡ Some value
equal_value None other value same is = absurd (cc)
equal_value (Some x) None value same is = absurd (cc)
equal_value (Some x) (Some y) value same is = ap Some (same_is x y same) ∙ is

same_value_at : (values : Values) (one other : ℕ) (value : TypedValue) → are_same values one other ≡ true →
    value_at values other ≡ Some value → value_at values one ≡ Some value
same_value_at values one other value same is =
    by (or_cases (one == other) (are_equal (value_at values one) (value_at values other)) same)
  where
    by : ((one == other) ≡ true) ⊎ (are_equal (value_at values one) (value_at values other) ≡ true) →
        value_at values one ≡ Some value
    by (inl e) = ap (value_at values) (eqb-true one other e) ∙ is
    by (inr e) = equal_value (value_at values one) (value_at values other) value e is

module _ (m : AreModelled) (apart : AreApart (λ (x : LinkedAttribute). x.head) m.linked.attributes.items) where
  abbrev Both : Statement → Property → Type 0
  Both statement x = SayOne m.ms m.linked m.table m.values statement x

  -- ---- of which attribute

  pub said_attribute : (statement : Statement) (x : Property) → Both statement x →
      IsAttributeId m.linked statement.attribute x.attribute
  said_attribute statement x both =
      subst (λ k. IsAttributeId m.linked k x.attribute) (sym both.says.attribute) both.is.is_attribute

  same_id : (k : ℕ) (one other : List ℕ) → IsAttributeId m.linked k one → IsAttributeId m.linked k other → one ≡ other
  same_id k one other p q = same_Some one other (sym p ∙ q)

  to_attribute : (statement : Statement) (x : Property) (attribute : ℕ) (id : List ℕ) →
      IsAttributeId m.linked attribute id → Both statement x → x.attribute ≡ id → statement.attribute ≡ attribute
  to_attribute statement x attribute id is both same =
      apart statement.attribute attribute id
      (subst (IsAttributeId m.linked statement.attribute) same (said_attribute statement x both)) is

  from_attribute : (statement : Statement) (x : Property) (attribute : ℕ) (id : List ℕ) →
      IsAttributeId m.linked attribute id → Both statement x → statement.attribute ≡ attribute → x.attribute ≡ id
  from_attribute statement x attribute id is both same =
      same_id attribute x.attribute id
      (subst (λ k. IsAttributeId m.linked k x.attribute) same (said_attribute statement x both)) is

  -- ---- some statement, and some property

  some_said : {k : ℕ} {of_class : ClassRec} (attribute : ℕ) (id : List ℕ) (Says : Property → Type 0)
      (Joins : Joined → Type 0) → IsRecordAt m k of_class → IsAttributeId m.linked attribute id →
      ((statement : Statement) (x : Property) → Both statement x → Says x → Joins statement.joined) →
      SomeStates m.schema of_class.id id Says → HasSuch m.linked.classes.items m.stated k attribute Joins
  some_said attribute id Says Joins here is to some =
      let said = states_said m here some.0 some.1 in
      record {
        statement = said.statement;
        has = said.has;
        of_attribute = to_attribute said.statement some.0 attribute id is said.both some.2;
        such = to said.statement some.0 said.both some.3;
      }

  said_some : {k : ℕ} {of_class : ClassRec} (attribute : ℕ) (id : List ℕ) (Says : Property → Type 0)
      (Joins : Joined → Type 0) → IsRecordAt m k of_class → IsAttributeId m.linked attribute id →
      ((statement : Statement) (x : Property) → Both statement x → Joins statement.joined → Says x) →
      HasSuch m.linked.classes.items m.stated k attribute Joins → SomeStates m.schema of_class.id id Says
  said_some attribute id Says Joins here is to such =
      let said = said_states m here such.statement such.has in (
        said.x,
        said.states,
        from_attribute such.statement said.x attribute id is said.both such.of_attribute,
        to such.statement said.x said.both such.such,
      )

  -- ---- a default, or an initial value

  -- the same of a statement and of a property
  pub record AreSameHeld : Type 0 where
    pub which : Property → Option TypedValue
    pub held : Joined → Held
    pub agree : (statement : Statement) (x : Property) → Both statement x →
        IsHeld m.values (held statement.joined) (which x)

  pub record HoldsOne (h : AreSameHeld) (k attribute : ℕ) (value : TypedValue) : Type 0 where
    pub number : ℕ
    pub holds : HoldsNumber h.held attribute m.linked.classes.items m.stated k number
    pub is : value_at m.values number ≡ Some value

  pub record HoldsValue (h : AreSameHeld) (id : List ℕ) (of_class : ClassRec) (number : ℕ) : Type 0 where
    pub value : TypedValue
    pub is : value_at m.values number ≡ Some value
    pub holds : Holds m.schema h.which id of_class.id value

  -- where a class states none itself, neither does its record, and the other way round
  none_said : (h : AreSameHeld) {k : ℕ} {of_class : ClassRec} (attribute : ℕ) (id : List ℕ) →
      IsRecordAt m k of_class → IsAttributeId m.linked attribute id →
      ((x : Property) → OwnStates of_class x → x.attribute ≡ id → h.which x ≡ None) → (statement : Statement) →
      OwnStatement m.linked.classes.items m.stated k statement → statement.attribute ≡ attribute →
      h.held statement.joined ≡ Nothing
  none_said h attribute id here is none_states statement its same =
      let found = own_property m here statement its in
      held_nothing m.values (h.held statement.joined) (h.which found.x) (h.agree statement found.x found.both)
      (none_states found.x found.own (from_attribute statement found.x attribute id is found.both same))

  said_none : (h : AreSameHeld) {k : ℕ} {of_class : ClassRec} (attribute : ℕ) (id : List ℕ) →
      IsRecordAt m k of_class → IsAttributeId m.linked attribute id →
      ((statement : Statement) → OwnStatement m.linked.classes.items m.stated k statement →
      statement.attribute ≡ attribute → h.held statement.joined ≡ Nothing) → (x : Property) → OwnStates of_class x →
      x.attribute ≡ id → h.which x ≡ None
  said_none h attribute id here is none_said x its same =
      let found = own_said m here x its in
      nothing_held m.values (h.held found.statement.joined) (h.which x) (h.agree found.statement x found.both)
      (none_said found.statement found.own (to_attribute found.statement x attribute id is found.both same))

  -- a value that holds for the record of a class is that of a number that holds for the class
  value_holds : (h : AreSameHeld) (attribute : ℕ) (id : List ℕ) → IsAttributeId m.linked attribute id →
      {class : List ℕ} {value : TypedValue} → Holds m.schema h.which id class value → (k : ℕ) (of_class : ClassRec) →
      IsRecordAt m k of_class → of_class.id ≡ class → HoldsOne h k attribute value
  value_holds h attribute id is {value = value} (Own its x has states same there) k of_class here called =
      let alike = one_record m its here (subst (λ c. HasRecord m.schema c its) (sym called) has) in
      let said = own_said m here x (subst (λ (y : ClassRec). OwnStates y x) alike states) in
      let number = held_number m.values (h.held said.statement.joined) (h.which x) value
      (h.agree said.statement x said.both) there in
      record {
        number = number.0;
        holds = own said.statement said.own (to_attribute said.statement x attribute id is said.both same) number.1;
        is = number.2;
      }
  value_holds h attribute id is (Inherited {above = above} its has none_states derives holds) k of_class here called =
      let alike = one_record m its here (subst (λ c. HasRecord m.schema c its) (sym called) has) in
      let next = superclass_of m here above (subst (λ c. Derives m.schema c above) (sym called) derives) in
      let further = value_holds h attribute id is holds next.target next.named.x next.named.here next.named.called in
      record {
        number = further.number;
        holds = inherited here.part here.class_at
            (none_said h attribute id here is
            (subst (λ (y : ClassRec). (x : Property) → OwnStates y x → x.attribute ≡ id → h.which x ≡ None) alike
            none_states)) next.listed further.holds;
        is = further.is;
      }

  number_holds : (h : AreSameHeld) (attribute : ℕ) (id : List ℕ) → IsAttributeId m.linked attribute id →
      {k number : ℕ} → HoldsNumber h.held attribute m.linked.classes.items m.stated k number →
      (of_class : ClassRec) → IsRecordAt m k of_class → HoldsValue h id of_class number
  number_holds h attribute id is {number = number} (own statement its same there) of_class here =
      let found = own_property m here statement its in
      let value = held_value_of m.values (h.held statement.joined) (h.which found.x) number
      (h.agree statement found.x found.both) there in
      record {
        value = value.0;
        is = value.2;
        holds = Own of_class found.x (is_known m here) found.own
            (from_attribute statement found.x attribute id is found.both same) value.1;
      }
  number_holds h attribute id is (inherited {above = above} its at none_stated listed holds) of_class here =
      let same = same_Some its here.part (sym at ∙ here.class_at) in
      let place = contains_at here.part.superclasses.items above
      (subst (λ (y : LinkedClass). Contains y.superclasses.items above) same listed) in
      let next = above_at m here place.0 above place.1 in
      let further = number_holds h attribute id is holds next.y next.there in
      record {
        value = further.value;
        is = further.is;
        holds = Inherited of_class (is_known m here) (said_none h attribute id here is none_stated) next.derives
            further.holds;
      }

  -- what sums up the numbers tells the value that holds
  summed_up : (h : AreSameHeld) {k : ℕ} {of_class : ClassRec} (attribute : ℕ) (id : List ℕ) (held : Held)
      (found : Option TypedValue) → IsRecordAt m k of_class → IsAttributeId m.linked attribute id →
      IsSummary m.values (HoldsNumber h.held attribute m.linked.classes.items m.stated k) held → held ≢ Unequal →
      held_value m.values held ≡ found → (value : TypedValue) →
      (found ≡ Some value) ↔ Holds m.schema h.which id of_class.id value
  summed_up h {k = k} {of_class = of_class} attribute id Nothing found here is sums one told value = (
    λ there. absurd (gone (told ∙ there)),
    λ holds. let number = value_holds h attribute id is holds k of_class here refl in
        absurd (sums number.number number.holds),
  )
    where
      gone : None ≡ Some value → ⊥
      gone e = absurd (cc)
  summed_up h {k = k} {of_class = of_class} attribute id NoValue found here is sums one told value = (
    λ there. absurd (gone (told ∙ there)),
    λ holds. let number = value_holds h attribute id is holds k of_class here refl in
        absurd (sums number.number number.holds),
  )
    where
      gone : None ≡ Some value → ⊥
      gone e = absurd (cc)
  summed_up h {k = k} {of_class = of_class} attribute id (One number) found here is sums one told value = (
    λ there.
        let its = number_holds h attribute id is sums.0 of_class here in
        subst (Holds m.schema h.which id of_class.id) (same_Some its.value value (sym its.is ∙ told ∙ there)) its.holds,
    λ holds.
        let other = value_holds h attribute id is holds k of_class here refl in
        sym told ∙ same_value_at m.values number other.number value (sums.1 other.number other.holds) other.is,
  )
  summed_up h attribute id Unequal found here is sums one told value = absurd (one refl)

  abbrev of_default : AreSameHeld
  of_default = record {
    which = λ x. x.default;
    held = λ joined. joined.default;
    agree = λ statement x both. default_held both;
  }

  abbrev of_initial : AreSameHeld
  of_initial = record {
    which = λ x. x.initial;
    held = λ joined. joined.initial;
    agree = λ statement x both. initial_held both;
  }

  -- ---- types

  -- places that some statement has are those of types that some property has
  types_some : {X : Type 0} {k : ℕ} {of_class : ClassRec} (attribute : ℕ) (id : List ℕ) (found : ℕ → Option X)
      (its : Joined → BTreeSet ℕ) (listed : Property → List X) (places : BTreeSet ℕ) (xs : List X) →
      IsRecordAt m k of_class → IsAttributeId m.linked attribute id →
      ((statement : Statement) (x : Property) → Both statement x → HasFound found (its statement.joined) (listed x)) →
      HasFound found places xs → ((place : ℕ) → (contains nat_cmp places place ≡ true)
      ↔ HasSuch m.linked.classes.items m.stated k attribute (λ other. contains nat_cmp (its other) place ≡ true)) →
      (x : X) → Contains xs x ↔ SomeStates m.schema of_class.id id (λ stated. Contains (listed stated) x)
  types_some {X} {k} {of_class} attribute id found its listed places xs here is agree has_found exact x = (
    λ there.
        let told = (has_found x).0 there in
        said_some attribute id (λ stated. Contains (listed stated) x)
        (λ other. contains nat_cmp (its other) told.0 ≡ true) here is
        (λ statement y both in_it. (agree statement y both x).1 (told.0, in_it, told.2)) ((exact told.0).0 told.1),
    λ some.
        let said = states_said m here some.0 some.1 in
        let told = (agree said.statement some.0 said.both x).0 some.3 in
        (has_found x).1 (
          told.0,
          (exact told.0).1 (record {
            statement = said.statement;
            has = said.has;
            of_attribute = to_attribute said.statement some.0 attribute id is said.both some.2;
            such = told.1;
          }),
          told.2,
        ),
  )

  -- ---- the joined property of an attribute

  flags_agree : {k : ℕ} {of_class : ClassRec} (attribute : ℕ) (id : List ℕ) (joined flag : Bool)
      (its : Joined → Bool) (listed : Property → Bool) → IsRecordAt m k of_class →
      IsAttributeId m.linked attribute id →
      ((statement : Statement) (x : Property) → Both statement x → its statement.joined ≡ listed x) → joined ≡ flag →
      (joined ≡ true) ↔ HasSuch m.linked.classes.items m.stated k attribute (λ other. its other ≡ true) →
      (flag ≡ true) ↔ SomeStates m.schema of_class.id id (λ stated. listed stated ≡ true)
  flags_agree attribute id joined flag its listed here is agree same exact = (
    λ there. said_some attribute id (λ stated. listed stated ≡ true) (λ other. its other ≡ true) here is
        (λ statement x both in_it. sym (agree statement x both) ∙ in_it) (exact.0 (same ∙ there)),
    λ some. sym same ∙ exact.1 (some_said attribute id (λ stated. listed stated ≡ true) (λ other. its other ≡ true)
        here is (λ statement x both in_it. agree statement x both ∙ in_it) some),
  )

  pub joined_is : {k : ℕ} {of_class : ClassRec} (attribute : ℕ) (joined : Joined) (x : Property) →
      IsRecordAt m k of_class → IsJoinedOver m.values m.linked.classes.items m.stated k attribute joined →
      HoldsNoneUnequal joined → IsJoinedProperty m.linked m.table m.values attribute joined x →
      IsJoined m.schema of_class.id x
  joined_is {k} {of_class} attribute joined x here over equal is =
      let id = is.is_attribute in
      let its = is.is_joined in
      record {
        stated = said_some attribute x.attribute (λ stated. Unit {0}) (λ other. Unit {0}) here id
            (λ statement y both in_it. tt) over.is_stated;
        get = flags_agree attribute x.attribute joined.get x.get (λ other. other.get) (λ stated. stated.get) here id
            (λ statement y both. both.says.gets ∙ both.is.gets) its.gets (over.properties Get);
        replace = flags_agree attribute x.attribute joined.replace x.replace (λ other. other.replace)
            (λ stated. stated.replace) here id (λ statement y both. both.says.replaces ∙ both.is.replaces) its.replaces
            (over.properties Replace);
        add = flags_agree attribute x.attribute joined.add x.add (λ other. other.add) (λ stated. stated.add) here id
            (λ statement y both. both.says.adds ∙ both.is.adds) its.adds (over.properties Add);
        remove = flags_agree attribute x.attribute joined.remove x.remove (λ other. other.remove)
            (λ stated. stated.remove) here id (λ statement y both. both.says.removes ∙ both.is.removes) its.removes
            (over.properties Remove);
        set_to_default = flags_agree attribute x.attribute joined.set_to_default x.set_to_default
            (λ other. other.set_to_default) (λ stated. stated.set_to_default) here id
            (λ statement y both. both.says.sets_default ∙ both.is.sets_default) its.sets_default
            (over.properties SetToDefault);
        permitted = types_some attribute x.attribute (type_syntax m.table) (λ other. other.permitted)
            (λ stated. stated.permitted) joined.permitted x.permitted here id
            (λ statement y both. permitted_said both)
            (joined_found (type_syntax m.table) joined.permitted x.permitted its.permits)
            (λ place. over.properties (Permitted place));
        required = types_some attribute x.attribute (type_name m.table) (λ other. other.required)
            (λ stated. stated.required) joined.required x.required here id (λ statement y both. required_said both)
            (joined_found (type_name m.table) joined.required x.required its.requires_types)
            (λ place. over.properties (Required place));
        default = summed_up of_default attribute x.attribute joined.default x.default here id over.default_
            equal.default_ its.is_default;
        initial = summed_up of_initial attribute x.attribute joined.initial x.initial here id over.initial_
            equal.initial_ its.is_initial;
      }
