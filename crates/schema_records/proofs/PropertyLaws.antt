-- PropertyLaws: the property that is made of a statement says what the package states (X.722, section 8.4).
use Rattle.std.proofs.Common.{◌≡◌, ◌∙◌, ◌++◌, ◌∷◌, [], ℕ, zero, suc, List, Option, None, Some, Less, Equal, ap, refl, sym}
use Rattle.std.proofs.Common.{arith, get_or, true, false}
use Rattle.std.specs.Prelude.{◌↔◌, All, Contains, is_some, option_and_then, option_map}
use Rattle.std.specs.Prelude.{slice_get}
use Rattle.std.specs.BTreeSet.{BTreeSet, IsOrdered, contains, keys}
use Rattle.std.specs.List.{cons_option, filter_map}
use Rattle.std.specs.List.Sorted.{IsStrictlySortedBy}
use Rattle.std.specs.Ordering.{nat_cmp}
use Rattle.std.specs.Global.{Vec}
use Rattle.std.proofs.Math.Path.{subst}
use Rattle.std.proofs.lemmas.Cmp.{nat_cmp_total, tied_itself}
use Rattle.std.proofs.lemmas.Map.Keys.{Less-from_sorted}
use Rattle.std.proofs.lemmas.Map.Lookups.{exact_unsigned}
use Rattle.std.proofs.lemmas.Map.Views.{btree_set_contains_iff}
use Rattle.std.proofs.lemmas.Option.{slice_get-get_or}
use Rattle.term_values.specs.Syntaxes.{TypeSyntax}
use Rattle.term_values.specs.Typed.{TypedValue}
use Rattle.term_model.specs.declared.packages.Property.{Property}
use Rattle.asn1_names.specs.ModuleTerms.{ModuleTerm}
use Rattle.joined_statements.specs.HeldValues.{value_at}
use Rattle.joined_statements.specs.JoinedStatements.{Values}
use Rattle.joined_statements.specs.declared.held.Held.{Held}
use Rattle.joined_statements.specs.declared.held.Held.TheVariants.{NoValue, Nothing, One, Unequal}
use Rattle.joined_properties.specs.OwnStatements.{Stated}
use Rattle.joined_properties.specs.declared.statement.Statement.{Statement}
use Rattle.linked_parts.specs.declared.linked.Linked.{Linked}
use Rattle.linked_parts.specs.declared.linked.LinkedName.{LinkedName}
use Rattle.linked_parts.specs.declared.linked.LinkedPackage.{LinkedPackage}
use Rattle.linked_parts.specs.declared.linked.LinkedUse.{LinkedUse}
use Rattle.class_faults.specs.StatedProperties.{HasValue, TypeHas}
use Rattle.linked_types.specs.PartIdentifiers.{AreEach, IsAttributeId}
use Rattle.linked_types.specs.PartTypes.{AreTold}
use Rattle.linked_types.specs.TypeTables.{IsTypeAt, syntax_at, type_at}
use Rattle.linked_types.specs.declared.type_table.NamedType.{NamedType}
use Rattle.linked_types.specs.declared.type_table.TypeTable.{TypeTable}
use Rattle.linked_types.proofs.NamingLaws.{optional_syntax}
use Rattle.package_statements.specs.PackageStatements.{IsStatementOf, TellsHeld, TellsPlaces}
use Rattle.schema_records.specs.ClassRecords.{ArePermittedTypes, AreRequiredTypes, IsOptionalValue, IsProperty}
use Rattle.schema_records.specs.KnownPackages.{AreKnownPackages, IsKnownPackage}
use Rattle.schema_records.specs.MeantParts.{MeanValues, MeansType, MeansValue}
use Rattle.schema_records.specs.PropertyRecords.{AreFoundAt, IsJoinedProperty, held_value, type_name, type_syntax}
use Rattle.schema_records.specs.RegisteredParts.{IsAttributePlace, NamesRegistered}
use Rattle.schema_records.proofs.EachLaws.{all_at, there_of}

-- ---- sets of no place, and of one

no_keys : (xs : List ℕ) → ((q : ℕ) → ¬ Contains xs q) → xs ≡ []
no_keys [] none_in = refl
no_keys (x ∷ xs) none_in = absurd (none_in x (0, omega arith, refl))

not_below : (n : ℕ) → ¬ (nat_cmp n n ≡ Less)
not_below n below = apart (sym (tied_itself nat_cmp_total n) ∙ below)
  where
    apart : Equal ≡ Less → ⊥
    apart e = absurd (cc)

one_key : (xs : List ℕ) (own : ℕ) → IsStrictlySortedBy nat_cmp xs → ((q : ℕ) → Contains xs q → q ≡ own) →
    Contains xs own → xs ≡ own ∷ []
one_key [] own sorted only there = let within = there.1 in absurd (omega arith)
one_key (x ∷ []) own sorted only there = ap (λ n. n ∷ []) (only x (0, omega arith, refl))
one_key (x ∷ y ∷ xs) own sorted only there =
    let below : nat_cmp x y ≡ Less = Less-from_sorted nat_cmp (x ∷ y ∷ xs) 0 1 0 sorted (omega arith) (omega arith) in
    let first : x ≡ own = only x (0, omega arith, refl) in
    let second : y ≡ own = only y (1, omega arith, refl) in
    absurd (not_below own (subst (λ n. nat_cmp n own ≡ Less) first (subst (λ n. nat_cmp x n ≡ Less) second below)))

is_key : (places : BTreeSet ℕ) (q : ℕ) → Contains (keys places) q → contains nat_cmp places q ≡ true
is_key places q there = (btree_set_contains_iff nat_cmp_total exact_unsigned places q).1 there

empty_keys : (places : BTreeSet ℕ) → ((q : ℕ) → contains nat_cmp places q ≡ false) → keys places ≡ []
empty_keys places none_in = no_keys (keys places) (λ q there. apart (sym (is_key places q there) ∙ none_in q))
  where
    apart : true ≡ false → ⊥
    apart e = absurd (cc)

single_key : (places : BTreeSet ℕ) (own : ℕ) → IsOrdered nat_cmp places →
    ((q : ℕ) → (contains nat_cmp places q ≡ true) ↔ (q ≡ own)) → keys places ≡ own ∷ []
single_key places own sorted exact = one_key (keys places) own sorted
    (λ q there. (exact q).0 (is_key places q there))
    ((btree_set_contains_iff nat_cmp_total exact_unsigned places own).0 ((exact own).1 refl))

-- ---- the parts of a property

pub value_is : (ms : List ModuleTerm) (linked : Linked) (values : Values) (name : Option LinkedName) (held : Held)
    (found : Option TypedValue) → TellsHeld ms linked values name held → MeansValue ms linked name →
    held_value values held ≡ found → IsOptionalValue ms linked name found
value_is ms linked values None Nothing found told means is = subst (IsOptionalValue ms linked None) is tt
value_is ms linked values None NoValue found told means is = absurd told
value_is ms linked values None (One number) found told means is = absurd told
value_is ms linked values None Unequal found told means is = absurd told
value_is ms linked values (Some name) Nothing found told means is = absurd told
value_is ms linked values (Some name) NoValue found told means is = absurd (told means.0 means.1)
value_is ms linked values (Some name) (One number) found told means is =
    let there : value_at values number ≡ Some told.0 = ap (λ o. option_and_then (λ value. value) o) told.1 in
    subst (IsOptionalValue ms linked (Some name)) (sym there ∙ is) told.2
value_is ms linked values (Some name) Unequal found told means is = absurd told

pub permitted_are : (ms : List ModuleTerm) (linked : Linked) (table : TypeTable) (name : Option LinkedName)
    (places : BTreeSet ℕ) (found : List TypeSyntax) → TellsPlaces ms linked table name places →
    MeansType ms linked name → AreFoundAt (type_syntax table) places found → ArePermittedTypes ms linked name found
permitted_are ms linked table None places found told means is =
    subst (ArePermittedTypes ms linked None) (sym (is.are ∙ ap (filter_map (type_syntax table)) (empty_keys places told))) tt
permitted_are ms linked table (Some name) places found told means is =
    let own = told.0 in
    let there = (optional_syntax ms linked table name (Some own) means.0 told.1).1 means.1 in
    subst (ArePermittedTypes ms linked (Some name))
    (sym (is.are ∙ ap (filter_map (type_syntax table)) (single_key places own is.rise told.2)
    ∙ ap (λ o. cons_option o []) there)) means.1

pub required_are : (ms : List ModuleTerm) (linked : Linked) (table : TypeTable) (name : Option LinkedName)
    (places : BTreeSet ℕ) (found : List (List ℕ)) → TellsPlaces ms linked table name places →
    AreFoundAt (type_name table) places found → AreRequiredTypes ms name found
required_are ms linked table None places found told is =
    subst (AreRequiredTypes ms None) (sym (is.are ∙ ap (filter_map (type_name table)) (empty_keys places told))) tt
required_are ms linked table (Some name) places found told is =
    let own = told.0 in
    let item = told.1.item in
    subst (AreRequiredTypes ms (Some name))
    (sym (is.are ∙ ap (filter_map (type_name table)) (single_key places own is.rise told.2)
    ∙ ap (λ o. cons_option (option_map (λ (x : NamedType). x.name) o) []) told.1.stands))
    (sym told.1.told.called)

-- ---- a property, and those of a package

pub property_is : (ms : List ModuleTerm) (linked : Linked) (table : TypeTable) (values : Values) (stated : LinkedUse)
    (statement : Statement) (x : Property) → IsStatementOf ms linked table values stated statement →
    MeansType ms linked stated.permitted → MeanValues ms linked stated →
    IsJoinedProperty linked table values statement.attribute statement.joined x → IsProperty ms linked stated x
property_is ms linked table values stated statement x says types means is = record {
  is_attribute = subst (λ k. IsAttributeId linked k x.attribute) says.attribute is.is_attribute;
  gets = sym says.gets ∙ is.is_joined.gets;
  replaces = sym says.replaces ∙ is.is_joined.replaces;
  adds = sym says.adds ∙ is.is_joined.adds;
  removes = sym says.removes ∙ is.is_joined.removes;
  sets_default = sym says.sets_default ∙ is.is_joined.sets_default;
  is_default = value_is ms linked values stated.default_value statement.joined.default x.default says.default_
      means.of_default is.is_joined.is_default;
  is_initial = value_is ms linked values stated.initial_value statement.joined.initial x.initial says.initial_
      means.of_initial is.is_joined.is_initial;
  permits = permitted_are ms linked table stated.permitted statement.joined.permitted x.permitted says.permitted types
      is.is_joined.permits;
  requires_types = required_are ms linked table stated.required statement.joined.required x.required says.required
      is.is_joined.requires_types;
}

pub properties_are : (ms : List ModuleTerm) (linked : Linked) (table : TypeTable) (values : Values)
    (uses : List LinkedUse) (statements : List Statement) (xs : List Property) →
    AreTold (IsStatementOf ms linked table values) uses statements →
    All (λ (stated : LinkedUse). MeansType ms linked stated.permitted) uses → All (MeanValues ms linked) uses →
    AreEach (λ (statement : Statement) x. IsJoinedProperty linked table values statement.attribute statement.joined x)
    statements xs → AreEach (IsProperty ms linked) uses xs
properties_are ms linked table values [] [] [] say types means each = tt
properties_are ms linked table values [] [] (x ∷ xs) say types means each = absurd each
properties_are ms linked table values [] (statement ∷ statements) xs say types means each =
    let size = say.size in absurd (omega arith)
properties_are ms linked table values (stated ∷ uses) [] xs say types means each =
    let size = say.size in absurd (omega arith)
properties_are ms linked table values (stated ∷ uses) (statement ∷ statements) [] say types means each = absurd each
properties_are ms linked table values (stated ∷ uses) (statement ∷ statements) (x ∷ xs) say types means each = (
  property_is ms linked table values stated statement x (say.told 0 stated statement refl refl)
      (types 0 stated (omega arith)) (means 0 stated (omega arith)) each.0,
  properties_are ms linked table values uses statements xs
      (record {
        size = let size = say.size in omega arith;
        told = λ k y z at there. say.told (suc k) y z at there;
      })
      (λ k d less. types (suc k) d (omega arith)) (λ k d less. means (suc k) d (omega arith)) each.1,
)

-- ---- what is known of a package

pub statements_registered : (ms : List ModuleTerm) (linked : Linked) (table : TypeTable) (values : Values)
    (uses : List LinkedUse) (statements : List Statement) → AreTold (IsStatementOf ms linked table values) uses statements →
    All (λ (stated : LinkedUse). IsAttributePlace linked stated.attribute) uses →
    All (λ (statement : Statement). IsAttributePlace linked statement.attribute) statements
statements_registered ms linked table values uses statements say registered k d less =
    let size = say.size in
    let stated = there_of uses k (omega arith) in
    let says = say.told k stated.0 (get_or statements k d) stated.1 (slice_get-get_or statements k d less) in
    subst (IsAttributePlace linked) (sym says.attribute)
    (all_at (λ (u : LinkedUse). IsAttributePlace linked u.attribute) uses k stated.0 registered stated.1)

pub package_known : {ms : List ModuleTerm} {linked : Linked} {table : TypeTable} {values : Values} {stated : Stated}
    (place : ℕ) (part : LinkedPackage) (statements : Vec Statement) →
    AreKnownPackages ms linked table values stated → slice_get linked.packages.items place ≡ Some part →
    slice_get stated place ≡ Some statements → IsKnownPackage ms linked table values part statements.items
package_known {ms} {linked} place part statements known at told = record {
  says = known.say.told place part statements at told;
  names = all_at (NamesRegistered linked) linked.packages.items place part known.registered.packages at;
  types = all_at (λ (p : LinkedPackage). All (λ (u : LinkedUse). MeansType ms linked u.permitted) p.attributes.items)
      linked.packages.items place part known.types.of_packages at;
  values_are = all_at (λ (p : LinkedPackage). All (MeanValues ms linked) p.attributes.items) linked.packages.items
      place part known.values_are at;
}
