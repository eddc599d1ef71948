-- PlacedTypes: the types at places: those at one place more, and which they are.
use Rattle.std.proofs.Common.{◌≡◌, ◌∙◌, ◌++◌, ◌∷◌, [], ℕ, List, Option, None, Some, sym, ap, subst, ⊎_elim}
use Rattle.std.specs.Prelude.{Contains, option_to_list}
use Rattle.std.proofs.lemmas.List.{append_assoc, append-nil}
use Rattle.std.proofs.lemmas.List.Elements.{Contains-append_cases, Contains-append_left, Contains-append_right}
use Rattle.term_values.specs.Syntaxes.{TypeSyntax}
use Rattle.joined_properties.proofs.ChainLaws.{contains_nothing}
use Rattle.joined_properties.proofs.OwnLaws.{first_of_list, in_list, later_of_list}
use Rattle.linked_types.specs.TypeTables.{syntax_at}
use Rattle.linked_types.specs.declared.type_table.TypeTable.{TypeTable}
use Rattle.property_faults.specs.TableFaults.{types_at}

-- those at one place more
pub types_more : (table : TypeTable) (places : List ℕ) (place : ℕ) →
    types_at table (places ++ place ∷ []) ≡ types_at table places ++ option_to_list (syntax_at table (Some place))
types_more table [] place = append-nil (option_to_list (syntax_at table (Some place)))
types_more table (first ∷ places) place =
    let own = option_to_list (syntax_at table (Some first)) in
    ap (λ types. own ++ types) (types_more table places place)
    ∙ sym (append_assoc own (types_at table places) (option_to_list (syntax_at table (Some place))))

-- the type of an option
there_alone : (o : Option TypeSyntax) (type : TypeSyntax) → Contains (option_to_list o) type → o ≡ Some type
there_alone None type c = absurd (contains_nothing type c)
there_alone (Some x) type c =
    ⊎_elim (λ (same : x ≡ type). ap Some same) (λ (d : Contains [] type). absurd (contains_nothing type d))
    (in_list x [] type c)

alone_there : (o : Option TypeSyntax) (type : TypeSyntax) → o ≡ Some type → Contains (option_to_list o) type
alone_there o type is =
    subst (λ p. Contains (option_to_list p) type) (sym is) (first_of_list type [])

-- a place of these at which this type stands
pub record StandsAmong (table : TypeTable) (places : List ℕ) (type : TypeSyntax) : Type 0 where
  pub place : ℕ
  pub among : Contains places place
  pub is_type : syntax_at table (Some place) ≡ Some type

pub stands_among : (table : TypeTable) (places : List ℕ) (type : TypeSyntax) → Contains (types_at table places) type →
    StandsAmong table places type
stands_among table [] type c = absurd (contains_nothing type c)
stands_among table (first ∷ places) type c =
    ⊎_elim
    (λ (d : Contains (option_to_list (syntax_at table (Some first))) type). record {
      place = first;
      among = first_of_list first places;
      is_type = there_alone (syntax_at table (Some first)) type d;
    })
    (λ (d : Contains (types_at table places) type).
    let further = stands_among table places type d in
    record {
      place = further.place;
      among = later_of_list first places further.place further.among;
      is_type = further.is_type;
    })
    (Contains-append_cases (option_to_list (syntax_at table (Some first))) (types_at table places) type c)

pub among_types : (table : TypeTable) (places : List ℕ) (type : TypeSyntax) → StandsAmong table places type →
    Contains (types_at table places) type
among_types table [] type there = absurd (contains_nothing there.place there.among)
among_types table (first ∷ places) type there =
    let own = option_to_list (syntax_at table (Some first)) in
    ⊎_elim
    (λ (same : first ≡ there.place).
    Contains-append_left own (types_at table places) type (alone_there (syntax_at table (Some first)) type
    (subst (λ n. syntax_at table (Some n) ≡ Some type) (sym same) there.is_type)))
    (λ (d : Contains places there.place).
    Contains-append_right own (types_at table places) type (among_types table places type
    (record { place = there.place; among = d; is_type = there.is_type })))
    (in_list first places there.place there.among)
