-- PermittedLaws: the types at the places that a class has of PERMITTED VALUES of an attribute are those that permit its
-- values (X.722, section 8.4).
use Rattle.std.proofs.Common.{◌≡◌, ◌∙◌, ℕ, List, Option, None, Some, true, refl, sym, subst, get_or}
use Rattle.std.specs.Prelude.{Contains}
use Rattle.std.specs.BTreeSet.{BTreeSet, contains}
use Rattle.std.specs.Cmp.{nat_cmp_total}
use Rattle.std.specs.Ordering.{nat_cmp}
use Rattle.std.proofs.lemmas.Bool.{false≢true}
use Rattle.std.proofs.lemmas.List.Elements.{All-contains, Contains-get_or}
use Rattle.std.proofs.lemmas.Map.Lookups.{exact_unsigned}
use Rattle.std.proofs.lemmas.Map.Views.{btree_set_contains_iff}
use Rattle.term_values.specs.Syntaxes.{TypeSyntax}
use Rattle.term_model.specs.WholeRecords.{IsNotEmpty, IsWithin}
use Rattle.asn1_names.specs.ModuleTerms.{ModuleTerm}
use Rattle.linked_parts.specs.declared.linked.Linked.{Linked}
use Rattle.linked_parts.specs.declared.linked.LinkedName.{LinkedName}
use Rattle.linked_parts.specs.declared.linked.LinkedUse.{LinkedUse}
use Rattle.class_faults.specs.PackageFaults.{ArePermitted}
use Rattle.class_faults.specs.StatedProperties.{States, TypeHas}
use Rattle.joined_statements.specs.JoinedStatements.{Values}
use Rattle.joined_statements.specs.declared.joined.Joined.{Joined}
use Rattle.joined_properties.specs.ClassProperties.{IsJoinedOver}
use Rattle.joined_properties.specs.ClassProperties.Property.{Permitted}
use Rattle.joined_properties.specs.OwnStatements.{Stated}
use Rattle.linked_types.specs.TypeTables.{syntax_at}
use Rattle.linked_types.specs.declared.type_table.TypeTable.{TypeTable}
use Rattle.linked_types.proofs.NamingLaws.{optional_syntax}
use Rattle.package_statements.specs.PackageStatements.{AreStated, TellsPlaces}
use Rattle.property_faults.specs.TableFaults.{types_at}
use Rattle.property_faults.proofs.PlacedTypes.{among_types, stands_among}
use Rattle.property_faults.proofs.StatedLaws.{stated_above, statement_above}

-- ---- the place of a type that is named

-- a name that stands has this type
pub record NamesType (ms : List ModuleTerm) (linked : Linked) (name : Option LinkedName) (type : TypeSyntax)
    : Type 0 where
  pub own : LinkedName
  pub is_named : name ≡ Some own
  pub has : TypeHas ms linked own type

-- a place of a set at which this type stands
pub record StandsIn (table : TypeTable) (places : BTreeSet ℕ) (type : TypeSyntax) : Type 0 where
  pub place : ℕ
  pub within : contains nat_cmp places place ≡ true
  pub is_type : syntax_at table (Some place) ≡ Some type

type_named : (ms : List ModuleTerm) (linked : Linked) (table : TypeTable) (name : Option LinkedName)
    (places : BTreeSet ℕ) (type : TypeSyntax) → TellsPlaces ms linked table name places → StandsIn table places type →
    NamesType ms linked name type
type_named ms linked table None places type tells there =
    absurd (false≢true (sym (tells there.place) ∙ there.within))
type_named ms linked table (Some name) places type tells there =
    let same = (tells.2 there.place).0 there.within in
    record {
      own = name;
      is_named = refl;
      has = (optional_syntax ms linked table name (Some tells.0) type tells.1).0
          (subst (λ n. syntax_at table (Some n) ≡ Some type) same there.is_type);
    }

named_stands : (ms : List ModuleTerm) (linked : Linked) (table : TypeTable) (name : Option LinkedName)
    (places : BTreeSet ℕ) (type : TypeSyntax) → TellsPlaces ms linked table name places →
    NamesType ms linked name type → StandsIn table places type
named_stands ms linked table None places type tells named = let is = named.is_named in absurd (cc)
named_stands ms linked table (Some name) places type tells named =
    let is = named.is_named in
    let same : named.own ≡ name = cc in
    record {
      place = tells.0;
      within = (tells.2 tells.0).1 refl;
      is_type = (optional_syntax ms linked table name (Some tells.0) type tells.1).1
          (subst (λ (n : LinkedName). TypeHas ms linked n type) same named.has);
    }

-- ---- in a class

-- a class states a type that permits values of an attribute
abbrev IsPermitted : List ModuleTerm → Linked → ℕ → ℕ → TypeSyntax → Type 0
IsPermitted ms linked k attribute type = (own : LinkedUse) × ((name : LinkedName) × States linked k own
    × (own.attribute ≡ attribute) × (own.permitted ≡ Some name) × TypeHas ms linked name type)

pub are_permitted : (ms : List ModuleTerm) (linked : Linked) (table : TypeTable) (values : Values) (stated : Stated)
    (k attribute : ℕ) (joined : Joined) → AreStated ms linked table values linked.packages.items stated →
    IsJoinedOver values linked.classes.items stated k attribute joined →
    ArePermitted ms linked k attribute (types_at table joined.permitted.keys)
are_permitted ms linked table values stated k attribute joined are over = record { each = λ type. (to type, from type) }
  where
    to : (type : TypeSyntax) → Contains (types_at table joined.permitted.keys) type →
        IsPermitted ms linked k attribute type
    to type c =
        let there = stands_among table joined.permitted.keys type c in
        let within = (btree_set_contains_iff nat_cmp_total exact_unsigned joined.permitted there.place).1 there.among in
        let such = (over.properties (Permitted there.place)).0 within in
        let own = stated_above ms linked table values stated k such.statement are such.has in
        let named = type_named ms linked table own.0.permitted such.statement.joined.permitted type own.1.says.permitted
        (record { place = there.place; within = such.such; is_type = there.is_type }) in (
          own.0,
          (
            named.own,
            own.1.states,
            sym own.1.says.attribute ∙ such.of_attribute,
            named.is_named,
            named.has,
          ),
        )

    from : (type : TypeSyntax) → IsPermitted ms linked k attribute type →
        Contains (types_at table joined.permitted.keys) type
    from type permitted =
        let own = permitted.0 in
        let said = statement_above ms linked table values stated k own are permitted.1.1 in
        let there = named_stands ms linked table own.permitted said.0.joined.permitted type said.1.says.permitted
        (record { own = permitted.1.0; is_named = permitted.1.3; has = permitted.1.4 }) in
        let within = (over.properties (Permitted there.place)).1 (record {
          statement = said.0;
          has = said.1.has;
          of_attribute = said.1.says.attribute ∙ permitted.1.2;
          such = there.within;
        }) in
        among_types table joined.permitted.keys type (record {
          place = there.place;
          among = (btree_set_contains_iff nat_cmp_total exact_unsigned joined.permitted there.place).0 within;
          is_type = there.is_type;
        })

-- types among which are all of others leave nothing of what these leave
pub left_by_fewer : (syntax : TypeSyntax) (types fewer : List TypeSyntax) →
    ((type : TypeSyntax) → Contains fewer type → Contains types type) → IsNotEmpty syntax types →
    IsNotEmpty syntax fewer
left_by_fewer syntax types fewer each some form bounds own =
    let found = some form bounds own in (
      found.0,
      found.1,
      found.2,
      found.3,
      λ i d within. All-contains (IsWithin form found.0) types (get_or fewer i d) found.4
          (each (get_or fewer i d) (Contains-get_or fewer i d within)),
    )
