-- StatedLaws: what a package states of an attribute, once as a statement and once as a property (X.722, section 8.4).
use Rattle.std.proofs.Common.{◌≡◌, ◌∙◌, ◌∷◌, [], ℕ, suc, zero, List, Option, None, Some, ap, arith, false, refl, sym, true}
use Rattle.std.specs.Prelude.{◌↔◌, Contains, option_and_then, option_map}
use Rattle.std.specs.BTreeSet.{BTreeSet, contains, keys}
use Rattle.std.specs.List.{cons_option, filter_map}
use Rattle.std.specs.Ordering.{nat_cmp}
use Rattle.std.proofs.Math.Path.{subst}
use Rattle.std.proofs.lemmas.Cmp.{nat_cmp_total}
use Rattle.std.proofs.lemmas.Map.Lookups.{exact_unsigned}
use Rattle.std.proofs.lemmas.Map.Views.{btree_set_contains_iff}
use Rattle.std.proofs.lemmas.Option.{same_Some}
use Rattle.term_values.specs.Syntaxes.{TypeSyntax}
use Rattle.term_values.specs.Typed.{TypedValue}
use Rattle.term_model.specs.declared.packages.Property.{Property}
use Rattle.asn1_names.specs.ModuleTerms.{ModuleTerm}
use Rattle.asn1_names.specs.NameMeaning.{Meaning}
use Rattle.asn1_leaf_values.specs.Arcs.{NamedArcs}
use Rattle.filled_syntaxes.specs.LinkedMeanings.{AssignsValue, linked_arcs, linked_meaning}
use Rattle.filled_syntaxes.specs.LinkedMeanings.AssignsValue.{assigned}
use Rattle.filled_syntaxes.proofs.FilledLaws.{has_once}
use Rattle.filled_syntaxes.specs.SaidTexts.{DenotesValue}
use Rattle.filled_syntaxes.proofs.SaidLaws.{one_value}
use Rattle.joined_statements.specs.HeldValues.{value_at}
use Rattle.joined_statements.specs.JoinedStatements.{Values}
use Rattle.joined_statements.specs.declared.held.Held.{Held}
use Rattle.joined_statements.specs.declared.held.Held.TheVariants.{NoValue, Nothing, One, Unequal}
use Rattle.joined_properties.specs.declared.statement.Statement.{Statement}
use Rattle.linked_parts.specs.declared.linked.Linked.{Linked}
use Rattle.linked_parts.specs.declared.linked.LinkedName.{LinkedName}
use Rattle.linked_parts.specs.declared.linked.LinkedUse.{LinkedUse}
use Rattle.class_faults.specs.StatedProperties.{HasValue}
use Rattle.linked_types.specs.TypeTables.{syntax_at}
use Rattle.linked_types.specs.declared.type_table.NamedType.{NamedType}
use Rattle.linked_types.specs.declared.type_table.TypeTable.{TypeTable}
use Rattle.linked_types.proofs.NamingLaws.{optional_syntax}
use Rattle.package_statements.specs.PackageStatements.{IsStatementOf, TellsHeld, TellsPlaces}
use Rattle.schema_records.specs.ClassRecords.{ArePermittedTypes, AreRequiredTypes, IsOptionalValue, IsProperty}
use Rattle.schema_records.specs.PropertyRecords.{AreFoundAt, type_name, type_syntax}

-- a statement and a property say what a package states
pub record SayOne (ms : List ModuleTerm) (linked : Linked) (table : TypeTable) (values : Values)
    (statement : Statement) (x : Property) : Type 0 where
  pub stated : LinkedUse
  pub says : IsStatementOf ms linked table values stated statement
  pub is : IsProperty ms linked stated x

-- ---- values

-- a number, and the value of its assignment
abbrev pub IsHeld : Values → Held → Option TypedValue → Type 0
IsHeld values Nothing None = Unit {0}
IsHeld values (One number) (Some value) = value_at values number ≡ Some value
IsHeld values _ _ = ⊥

-- a name is assigned one value
values_once : (ms : List ModuleTerm) (names : NamedArcs) (meant : Meaning) (one other : TypedValue) →
    AssignsValue ms names meant one → AssignsValue ms names meant other → one ≡ other
values_once ms names meant one other
    (assigned {m = m} {i = i} {of = of} {number = number} {text = text} {syntax = syntax} filled denotes)
    (assigned {syntax = again} also tells) =
    one_value names syntax text denotes
    (subst (λ s. DenotesValue names s text other) (has_once ms names meant also filled) tells)

pub held_is : (ms : List ModuleTerm) (linked : Linked) (values : Values) (name : Option LinkedName) (held : Held)
    (found : Option TypedValue) → TellsHeld ms linked values name held → IsOptionalValue ms linked name found →
    IsHeld values held found
held_is ms linked values None Nothing None told is = tt
held_is ms linked values None Nothing (Some value) told is = absurd is
held_is ms linked values None NoValue found told is = absurd told
held_is ms linked values None (One number) found told is = absurd told
held_is ms linked values None Unequal found told is = absurd told
held_is ms linked values (Some name) Nothing found told is = absurd told
held_is ms linked values (Some name) NoValue None told is = absurd is
held_is ms linked values (Some name) NoValue (Some value) told is = absurd (told value is)
held_is ms linked values (Some name) (One number) None told is = absurd is
held_is ms linked values (Some name) (One number) (Some value) told is =
    ap (λ o. option_and_then (λ v. v) o) told.1
    ∙ ap Some (values_once ms (linked_arcs linked) (linked_meaning ms name.meaning) told.0 value told.2 is)
held_is ms linked values (Some name) Unequal found told is = absurd told

pub held_nothing : (values : Values) (held : Held) (found : Option TypedValue) → IsHeld values held found →
    found ≡ None → held ≡ Nothing
held_nothing values Nothing None is gone = refl
held_nothing values Nothing (Some value) is gone = absurd is
held_nothing values NoValue None is gone = absurd is
held_nothing values NoValue (Some value) is gone = absurd is
held_nothing values (One number) None is gone = absurd is
held_nothing values (One number) (Some value) is gone = absurd (cc)
held_nothing values Unequal None is gone = absurd is
held_nothing values Unequal (Some value) is gone = absurd is

pub nothing_held : (values : Values) (held : Held) (found : Option TypedValue) → IsHeld values held found →
    held ≡ Nothing → found ≡ None
nothing_held values Nothing None is gone = refl
nothing_held values Nothing (Some value) is gone = absurd is
nothing_held values NoValue None is gone = absurd is
nothing_held values NoValue (Some value) is gone = absurd is
nothing_held values (One number) None is gone = absurd is
nothing_held values (One number) (Some value) is gone = absurd (cc)
nothing_held values Unequal None is gone = absurd is
nothing_held values Unequal (Some value) is gone = absurd is

pub held_number : (values : Values) (held : Held) (found : Option TypedValue) (value : TypedValue) →
    IsHeld values held found → found ≡ Some value →
    (number : ℕ) × (held ≡ One number) × (value_at values number ≡ Some value)
held_number values Nothing None value is there = absurd (cc)
held_number values Nothing (Some other) value is there = absurd is
held_number values NoValue None value is there = absurd is
held_number values NoValue (Some other) value is there = absurd is
held_number values (One number) None value is there = absurd is
held_number values (One number) (Some other) value is there = (number, refl, is ∙ there)
held_number values Unequal None value is there = absurd is
held_number values Unequal (Some other) value is there = absurd is

pub held_value_of : (values : Values) (held : Held) (found : Option TypedValue) (number : ℕ) →
    IsHeld values held found → held ≡ One number →
    (value : TypedValue) × (found ≡ Some value) × (value_at values number ≡ Some value)
held_value_of values Nothing None number is there = absurd (cc)
held_value_of values Nothing (Some value) number is there = absurd is
held_value_of values NoValue None number is there = absurd is
held_value_of values NoValue (Some value) number is there = absurd is
held_value_of values (One other) None number is there = absurd is
held_value_of values (One other) (Some value) number is there =
    (value, refl, ap (value_at values) (sym (same other number there)) ∙ is)
  where
    same : (a b : ℕ) → One a ≡ One b → a ≡ b
    same a b e = cc
held_value_of values Unequal None number is there = absurd is
held_value_of values Unequal (Some value) number is there = absurd is

-- ---- types, by their places

-- a list has what is found at places, and nothing else
abbrev pub HasFound : {X : Type 0} → (ℕ → Option X) → BTreeSet ℕ → List X → Type 0
HasFound {X} found places xs = (x : X) →
    Contains xs x ↔ ((place : ℕ) × (contains nat_cmp places place ≡ true) × (found place ≡ Some x))

none_in : {X : Type 0} (x : X) → ¬ Contains [] x
none_in x there = let within = there.1 in absurd (omega arith)

only_in : {X : Type 0} (x y : X) → Contains (y ∷ []) x → y ≡ x
only_in x y (zero, within, same) = same
only_in x y (suc k, within, same) = absurd (omega arith)

head_in : {X : Type 0} (x : X) (xs : List X) → Contains (x ∷ xs) x
head_in x xs = (0, omega arith, refl)

tail_in : {X : Type 0} (x y : X) (xs : List X) → Contains xs y → Contains (x ∷ xs) y
tail_in x y xs there = let within = there.1 in (suc there.0, omega arith, there.2)

no_truth : false ≡ true → ⊥
no_truth e = absurd (cc)

-- of a name that doesn't stand
found_none : {X : Type 0} (found : ℕ → Option X) (places : BTreeSet ℕ) →
    ((place : ℕ) → contains nat_cmp places place ≡ false) → HasFound found places []
found_none found places none_there x = (
  λ there. absurd (none_in x there),
  λ told. absurd (no_truth (sym (none_there told.0) ∙ told.1)),
)

-- of a name that stands
found_one : {X : Type 0} (found : ℕ → Option X) (places : BTreeSet ℕ) (own : ℕ) (y : X) →
    ((place : ℕ) → (contains nat_cmp places place ≡ true) ↔ (place ≡ own)) → found own ≡ Some y →
    HasFound found places (y ∷ [])
found_one found places own y exact is x = (
  λ there. (own, (exact own).1 refl, is ∙ ap Some (only_in x y there)),
  λ told. subst (Contains (y ∷ []))
      (same_Some y x (sym is ∙ ap found (sym ((exact told.0).0 told.1)) ∙ told.2)) (head_in y []),
)

pub permitted_found : (ms : List ModuleTerm) (linked : Linked) (table : TypeTable) (name : Option LinkedName)
    (places : BTreeSet ℕ) (types : List TypeSyntax) → TellsPlaces ms linked table name places →
    ArePermittedTypes ms linked name types → HasFound (type_syntax table) places types
permitted_found ms linked table None places [] told are = found_none (type_syntax table) places told
permitted_found ms linked table None places (x ∷ types) told are = absurd are
permitted_found ms linked table (Some name) places [] told are = absurd are
permitted_found ms linked table (Some name) places (x ∷ []) told are =
    found_one (type_syntax table) places told.0 x told.2
    ((optional_syntax ms linked table name (Some told.0) x told.1).1 are)
permitted_found ms linked table (Some name) places (x ∷ y ∷ types) told are = absurd are

pub required_found : (ms : List ModuleTerm) (linked : Linked) (table : TypeTable) (name : Option LinkedName)
    (places : BTreeSet ℕ) (names : List (List ℕ)) → TellsPlaces ms linked table name places →
    AreRequiredTypes ms name names → HasFound (type_name table) places names
required_found ms linked table None places [] told are = found_none (type_name table) places told
required_found ms linked table None places (x ∷ names) told are = absurd are
required_found ms linked table (Some name) places [] told are = absurd are
required_found ms linked table (Some name) places (x ∷ []) told are =
    found_one (type_name table) places told.0 x told.2
    (ap (λ o. option_map (λ (y : NamedType). y.name) o) told.1.stands ∙ ap Some (told.1.told.called ∙ are))
required_found ms linked table (Some name) places (x ∷ y ∷ names) told are = absurd are

-- what is found in turn
in_turn : {X : Type 0} (found : ℕ → Option X) (places : List ℕ) (x : X) → Contains (filter_map found places) x →
    (place : ℕ) × Contains places place × (found place ≡ Some x)
in_turn found [] x there = absurd (none_in x there)
in_turn {X} found (place ∷ places) x there = by (λ further. in_turn found places x further) (found place) refl
  where
    later : (Contains (filter_map found places) x → (p : ℕ) × Contains places p × (found p ≡ Some x)) →
        Contains (filter_map found places) x → (p : ℕ) × Contains (place ∷ places) p × (found p ≡ Some x)
    later rest further = let told = rest further in (told.0, tail_in place told.0 places told.1, told.2)

    here : (Contains (filter_map found places) x → (p : ℕ) × Contains places p × (found p ≡ Some x)) → (y : X) →
        found place ≡ Some y → Contains (y ∷ filter_map found places) x →
        (p : ℕ) × Contains (place ∷ places) p × (found p ≡ Some x)
    here rest y is (zero, within, same) = (place, head_in place places, is ∙ ap Some same)
    here rest y is (suc k, within, same) = later rest (k, omega arith, same)

    by : (Contains (filter_map found places) x → (p : ℕ) × Contains places p × (found p ≡ Some x)) → (o : Option X) →
        found place ≡ o → (p : ℕ) × Contains (place ∷ places) p × (found p ≡ Some x)
    by rest None is = later rest (subst (λ o. Contains (cons_option o (filter_map found places)) x) is there)
    by rest (Some y) is = here rest y is (subst (λ o. Contains (cons_option o (filter_map found places)) x) is there)

behind_found : {X : Type 0} (o : Option X) (x : X) (xs : List X) → Contains xs x → Contains (cons_option o xs) x
behind_found None x xs there = there
behind_found (Some y) x xs there = tail_in y x xs there

turned_up : {X : Type 0} (found : ℕ → Option X) (places : List ℕ) (x : X) (place : ℕ) → Contains places place →
    found place ≡ Some x → Contains (filter_map found places) x
turned_up found [] x place there is = absurd (none_in place there)
turned_up {X} found (p ∷ places) x place (zero, within, same) is =
    subst (λ o. Contains (cons_option o (filter_map found places)) x) (sym (ap found same ∙ is))
    (head_in x (filter_map found places))
turned_up found (p ∷ places) x place (suc k, within, same) is =
    behind_found (found p) x (filter_map found places) (turned_up found places x place (k, omega arith, same) is)

pub joined_found : {X : Type 0} (found : ℕ → Option X) (places : BTreeSet ℕ) (xs : List X) →
    AreFoundAt found places xs → HasFound found places xs
joined_found found places xs are x = (
  λ there.
      let told = in_turn found (keys places) x (subst (λ ys. Contains ys x) are.are there) in
      (told.0, (btree_set_contains_iff nat_cmp_total exact_unsigned places told.0).1 told.1, told.2),
  λ told. subst (λ ys. Contains ys x) (sym are.are)
      (turned_up found (keys places) x told.0
      ((btree_set_contains_iff nat_cmp_total exact_unsigned places told.0).0 told.1) told.2),
)

-- ---- all of a statement

module _ {ms : List ModuleTerm} {linked : Linked} {table : TypeTable} {values : Values} {statement : Statement}
    {x : Property} (say : SayOne ms linked table values statement x) where
  pub default_held : IsHeld values statement.joined.default x.default
  default_held = held_is ms linked values say.stated.default_value statement.joined.default x.default
      say.says.default_ say.is.is_default

  pub initial_held : IsHeld values statement.joined.initial x.initial
  initial_held = held_is ms linked values say.stated.initial_value statement.joined.initial x.initial
      say.says.initial_ say.is.is_initial

  pub permitted_said : HasFound (type_syntax table) statement.joined.permitted x.permitted
  permitted_said = permitted_found ms linked table say.stated.permitted statement.joined.permitted x.permitted
      say.says.permitted say.is.permits

  pub required_said : HasFound (type_name table) statement.joined.required x.required
  required_said = required_found ms linked table say.stated.required statement.joined.required x.required
      say.says.required say.is.requires_types
