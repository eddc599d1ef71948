-- JoinedLaws: a schema that has the records of classes with the properties that are joined for these has the joined
-- properties of its classes (X.722, section 8.4; docs/PROFILE.md, section 18).
use Rattle.std.proofs.Common.{◌≡◌, ◌≢◌, ◌<◌, ◌∙◌, ◌∷◌, [], ℕ, suc, zero, List, Option, Equal, Less, None, Some, ap, arith}
use Rattle.std.proofs.Common.{get_or, length, map, refl, sym}
use Rattle.std.specs.Prelude.{All, AllPairs, Contains, slice_get}
use Rattle.std.specs.BTreeMap.{get, keys}
use Rattle.std.specs.Map.{keys_of}
use Rattle.std.specs.Option.{IsSome}
use Rattle.std.specs.Ordering.{nat_cmp}
use Rattle.std.proofs.Math.Path.{subst}
use Rattle.std.proofs.lemmas.Cmp.{nat_cmp_total, tied_itself}
use Rattle.std.proofs.lemmas.List.{length-map}
use Rattle.std.proofs.lemmas.List.Elements.{Contains-get_or}
use Rattle.std.proofs.lemmas.Map.Entries.{btree_map_get_place}
use Rattle.std.proofs.lemmas.Map.Keys.{Less-from_sorted}
use Rattle.std.proofs.lemmas.Map.Lookups.{exact_unsigned}
use Rattle.std.proofs.lemmas.Map.Views.{btree_map_contains_key_iff, btree_map_get_iff}
use Rattle.std.proofs.lemmas.Option.{same_Some, slice_get-get_or, slice_get_within}
use Rattle.term_model.specs.JoinedProperties.{HasJoined, IsJoined, States}
use Rattle.term_model.specs.declared.packages.Property.{Property}
use Rattle.term_model.specs.declared.schema.ClassRec.{ClassRec}
use Rattle.asn1_names.specs.ModuleTerms.{ModuleTerm}
use Rattle.joined_statements.specs.JoinedStatements.{Attributes, Values}
use Rattle.joined_statements.specs.declared.joined.Joined.{Joined}
use Rattle.joined_properties.specs.ClassProperties.{AreProperties, ArePropertiesOfAll}
use Rattle.joined_properties.specs.OwnStatements.{Stated}
use Rattle.joined_properties.specs.ReachedStatements.{HasSuch}
use Rattle.linked_parts.specs.declared.linked.Linked.{Linked}
use Rattle.linked_parts.specs.declared.linked.LinkedAttribute.{LinkedAttribute}
use Rattle.linked_parts.specs.declared.linked.LinkedPackage.{LinkedPackage}
use Rattle.linked_parts.specs.declared.linked.LinkedUse.{LinkedUse}
use Rattle.linked_types.specs.PartIdentifiers.{AreEach, IsAttributeId}
use Rattle.linked_types.specs.declared.type_table.TypeTable.{TypeTable}
use Rattle.package_statements.specs.PackageStatements.{AreStated}
use Rattle.schema_records.specs.ApartParts.{AreApart, AreNoneUnequal}
use Rattle.schema_records.specs.PropertyRecords.{AreAttributePlaces, AreJoinedProperties, HasJoinedProperties}
use Rattle.schema_records.specs.PropertyRecords.{IsJoinedProperty}
use Rattle.schema_records.specs.RegisteredParts.{AreRegisteredParts, IsAttributePlace, NamesRegistered}
use Rattle.schema_records.proofs.ClassLaws.{AreModelled, IsRecordAt, IsSaid, at_contains, contains_at, each_at}
use Rattle.schema_records.proofs.ClassLaws.{each_from, record_from, states_said}
use Rattle.schema_records.proofs.EachLaws.{all_at, there_of}
use Rattle.schema_records.proofs.ModelLaws.{joined_is, said_attribute}

key_at : (entries : List (ℕ × Joined)) (i : ℕ) (entry : ℕ × Joined) → slice_get entries i ≡ Some entry →
    get_or (keys_of entries) i 0 ≡ entry.0
key_at [] i entry at = absurd (cc)
key_at (x ∷ entries) zero entry at = ap (λ (e : ℕ × Joined). e.0) (same_Some x entry at)
key_at (x ∷ entries) (suc i) entry at = key_at entries i entry at

map_at : {A B : Type 0} (f : A → B) (xs : List A) (i : ℕ) (x : A) → slice_get xs i ≡ Some x →
    slice_get (map f xs) i ≡ Some (f x)
map_at f [] i x at = absurd (cc)
map_at f (y ∷ xs) zero x at = ap (λ z. Some (f z)) (same_Some y x at)
map_at f (y ∷ xs) (suc i) x at = map_at f xs i x at

not_below : (n : ℕ) → ¬ (nat_cmp n n ≡ Less)
not_below n below = apart (sym (tied_itself nat_cmp_total n) ∙ below)
  where
    apart : Equal ≡ Less → ⊥
    apart e = absurd (cc)

no_some : IsSome {T = Joined} None → ⊥
no_some there = absurd (cc)

-- ---- the attributes in the table of a class are registered

module _ (ms : List ModuleTerm) (linked : Linked) (table : TypeTable) (values : Values) (stated : Stated)
    (known : List Attributes) (registered : AreRegisteredParts linked)
    (say : AreStated ms linked table values linked.packages.items stated)
    (joined : ArePropertiesOfAll values linked.classes.items stated known) where
  such_registered : (k attribute : ℕ) → HasSuch linked.classes.items stated k attribute (λ other. Unit {0}) →
      IsAttributePlace linked attribute
  such_registered k attribute such =
      let own = such.has.says in
      let size = say.size in
      let within = slice_get_within stated own.place own.statements own.package_at in
      let part = there_of linked.packages.items own.place (omega arith) in
      let told = say.told own.place part.0 own.statements part.1 own.package_at in
      let where_ = contains_at own.statements.items such.statement own.says in
      let less = slice_get_within own.statements.items where_.0 such.statement where_.1 in
      let long = told.size in
      let use_ = there_of part.0.attributes.items where_.0 (omega arith) in
      let says = told.told where_.0 use_.0 such.statement use_.1 where_.1 in
      let names = all_at (NamesRegistered linked) linked.packages.items own.place part.0 registered.packages part.1 in
      subst (IsAttributePlace linked) (sym says.attribute ∙ such.of_attribute)
      (all_at (λ (u : LinkedUse). IsAttributePlace linked u.attribute) part.0.attributes.items where_.0 use_.0
      names.attributes use_.1)

  key_registered : (k : ℕ) (attributes : Attributes) (attribute : ℕ) → slice_get known k ≡ Some attributes →
      Contains (keys attributes) attribute → IsAttributePlace linked attribute
  key_registered k attributes attribute at listed = by (get nat_cmp attributes attribute) refl
      ((btree_map_contains_key_iff nat_cmp_total exact_unsigned attributes attribute).1 listed)
    where
      by : (o : Option Joined) → get nat_cmp attributes attribute ≡ o → IsSome (get nat_cmp attributes attribute) →
          IsAttributePlace linked attribute
      by None is there = absurd (no_some (subst IsSome is there))
      by (Some x) is there = such_registered k attribute
          (subst (AreProperties values linked.classes.items stated k attribute) is
          (joined.each k attributes at attribute)).is_stated

  pub tables_registered : All (AreAttributePlaces linked) known
  tables_registered k d within i e less =
      key_registered k (get_or known k d) (get_or (keys (get_or known k d)) i e) (slice_get-get_or known k d within)
      (Contains-get_or (keys (get_or known k d)) i e less)

-- ---- the joined properties of all classes

module _ (m : AreModelled) (apart : AreApart (λ (x : LinkedAttribute). x.head) m.linked.attributes.items)
    (known : List Attributes)
    (have : AreEach (HasJoinedProperties m.linked m.table m.values) known m.schema.classes)
    (joined : ArePropertiesOfAll m.values m.linked.classes.items m.stated known) (equal : AreNoneUnequal known) where
  -- a property, with the entry at its place
  record IsOfEntry (attributes : Attributes) (i : ℕ) (x : Property) : Type 0 where
    pub attribute : ℕ
    pub joined_ : Joined
    pub at : slice_get attributes.entries i ≡ Some (attribute, joined_)
    pub is : IsJoinedProperty m.linked m.table m.values attribute joined_ x

  entry_of : (attributes : Attributes) (xs : List Property) (i : ℕ) (x : Property) →
      AreJoinedProperties m.linked m.table m.values attributes xs → slice_get xs i ≡ Some x → IsOfEntry attributes i x
  entry_of attributes xs i x are at =
      let found = each_from (λ (entry : ℕ × Joined) y. IsJoinedProperty m.linked m.table m.values entry.0 entry.1 y)
      attributes.entries xs i x are.are at in
      record { attribute = found.0.0; joined_ = found.0.1; at = found.1; is = found.2 }

  one_class : (k : ℕ) (of_class : ClassRec) (attributes : Attributes) → IsRecordAt m k of_class →
      slice_get known k ≡ Some attributes →
      AreJoinedProperties m.linked m.table m.values attributes of_class.properties → HasJoined m.schema of_class
  one_class k of_class attributes here at are = record { joined = all_joined_; once = apart_; each = each_ }
    where
      all_joined_ : All (IsJoined m.schema of_class.id) of_class.properties
      all_joined_ i d within =
          let x = get_or of_class.properties i d in
          let entry = entry_of attributes of_class.properties i x are (slice_get-get_or of_class.properties i d within) in
          let got : get nat_cmp attributes entry.attribute ≡ Some entry.joined_ =
          btree_map_get_place nat_cmp_total attributes i entry.attribute entry.joined_ are.rise entry.at in
          joined_is m apart entry.attribute entry.joined_ x here
          (subst (AreProperties m.values m.linked.classes.items m.stated k entry.attribute) got
          (joined.each k attributes at entry.attribute))
          (equal k entry.attribute attributes entry.joined_ at got) entry.is

      apart_ : AllPairs (λ (one other : Property). one.attribute ≢ other.attribute) of_class.properties
      apart_ i j d less within same =
          let before : i < length of_class.properties = omega (arith, less, within) in
          let one = entry_of attributes of_class.properties i (get_or of_class.properties i d) are
          (slice_get-get_or of_class.properties i d before) in
          let other = entry_of attributes of_class.properties j (get_or of_class.properties j d) are
          (slice_get-get_or of_class.properties j d within) in
          let last = slice_get_within attributes.entries j (other.attribute, other.joined_) other.at in
          let size = length-map attributes.entries (λ (e : ℕ × Joined). e.0) in
          let below = Less-from_sorted nat_cmp (keys_of attributes.entries) i j 0 are.rise less (omega (arith, last, size)) in
          let alike = apart one.attribute other.attribute (get_or of_class.properties j d).attribute
          (subst (λ id. IsAttributeId m.linked one.attribute id) same one.is.is_attribute) other.is.is_attribute in
          not_below other.attribute
          (subst (λ n. nat_cmp n other.attribute ≡ Less)
          (key_at attributes.entries i (one.attribute, one.joined_) one.at ∙ alike)
          (subst (λ n. nat_cmp (get_or (keys_of attributes.entries) i 0) n ≡ Less)
          (key_at attributes.entries j (other.attribute, other.joined_) other.at) below))

      each_ : (stated : Property) → States m.schema of_class.id stated →
          Contains (map (λ (x : Property). x.attribute) of_class.properties) stated.attribute
      each_ stated states = by (get nat_cmp attributes said.statement.attribute) refl
        where
          said : IsSaid m k stated
          said = states_said m here stated states

          by : (o : Option Joined) → get nat_cmp attributes said.statement.attribute ≡ o →
              Contains (map (λ (x : Property). x.attribute) of_class.properties) stated.attribute
          by None is = absurd (subst
              (AreProperties m.values m.linked.classes.items m.stated k said.statement.attribute) is
              (joined.each k attributes at said.statement.attribute)
              (record { statement = said.statement; has = said.has; of_attribute = refl; such = tt }))
          by (Some its) is =
              let entry = contains_at attributes.entries (said.statement.attribute, its)
              ((btree_map_get_iff nat_cmp_total exact_unsigned attributes are.rise said.statement.attribute its).0 is) in
              let found = each_at (λ (e : ℕ × Joined) y. IsJoinedProperty m.linked m.table m.values e.0 e.1 y)
              attributes.entries of_class.properties entry.0 (said.statement.attribute, its) are.are entry.1 in
              let same = same_Some found.0.attribute stated.attribute (sym found.2.is_attribute
              ∙ said_attribute m apart said.statement stated said.both) in
              subst (Contains (map (λ (x : Property). x.attribute) of_class.properties)) same
              (at_contains (map (λ (x : Property). x.attribute) of_class.properties) entry.0 found.0.attribute
              (map_at (λ (x : Property). x.attribute) of_class.properties entry.0 found.0 found.1))

  pub all_joined : All (HasJoined m.schema) m.schema.classes
  all_joined k d within =
      let x = get_or m.schema.classes k d in
      let at = slice_get-get_or m.schema.classes k d within in
      let found = each_from (HasJoinedProperties m.linked m.table m.values) known m.schema.classes k x have at in
      one_class k x found.0 (record_from m k x at) found.1 found.2
