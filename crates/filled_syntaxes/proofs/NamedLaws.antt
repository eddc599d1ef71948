-- NamedLaws: which value a text denotes asks of the arcs of names only those of 32 bits (X.680, section 32).
use Rattle.std.proofs.Common.{◌≡◌, ◌∙◌, ℕ, List, [], ◌∷◌, ◌++◌, ◌+◌, zero, Bool, true, false, Option, None, Some, refl, ap}
use Rattle.std.specs.Prelude.{option_and_then, option_map, if◌then◌else◌}
use Rattle.std.specs.List.{list_all}
use Rattle.term_values.specs.CmipTypes.{filter_choice, filter_item}
use Rattle.term_values.specs.Decoding.{left_out, rising_by, sized_members}
use Rattle.term_values.specs.Oid.{is_arc}
use Rattle.term_values.specs.Syntaxes.{TypeSyntax, TypeParts}
use Rattle.term_values.specs.Syntaxes.TypeSyntax.{Boolean, Integer, Enumerated, BitString, OctetString, NullType}
use Rattle.term_values.specs.Syntaxes.TypeSyntax.{ObjectIdentifier, TextString, GeneralizedTime, Sequence, SetType}
use Rattle.term_values.specs.Syntaxes.TypeSyntax.{SequenceOf, SetOf, Choice, Tagged, Any, Filter}
use Rattle.term_values.specs.Syntaxes.TypeParts.{NoParts, Part}
use Rattle.term_values.specs.Typed.{TypedValue}
use Rattle.term_values.specs.Typed.TypedValue.{Identifier, Parts, Pick, Raw}
use Rattle.term_values.specs.Typed.TypedSlots.{Filled}
use Rattle.term_values.specs.Typed.TypedValues.{Then}
use Rattle.term_values.specs.Written.{der}
use Rattle.asn1_leaf_values.specs.Arcs.{NamedArcs, alone_said, arc_numbers, arcs_said, behind_first_name, first_arc}
use Rattle.asn1_leaf_values.specs.Arcs.{first_arcs, standard_or, where_arcs, where_oid}
use Rattle.asn1_leaf_values.specs.Literals.{same_name}
use Rattle.asn1_leaf_values.specs.TextValues.{TextValue, TextParts, parts_of}
use Rattle.asn1_leaf_values.specs.TextValues.TextValue.{Literal, Number, Name, Chosen, InBraces, InArcs}
use Rattle.asn1_leaf_values.specs.TextValues.TextParts.{NoTexts, AndText}
use Rattle.asn1_values.specs.Denoted.{Reading, chosen_by, components_said, denoted, members_said, picked_said, reading_of}
use Rattle.asn1_values.specs.Denoted.{taken_out, unordered_said, where_taken}
use Rattle.asn1_values.specs.Filters.{alternative, each_said, filter_said, filters_said, item_said, no_filter, value_named}
use Rattle.asn1_values.specs.Filters.{where_unnamed}
use Rattle.filled_syntaxes.specs.KnownThings.{where_known}

-- ---- names

known_again : (arcs : List ℕ) → option_and_then where_arcs (where_arcs arcs) ≡ where_arcs arcs
known_again arcs = by (list_all is_arc arcs) refl
  where
    by : (b : Bool) → list_all is_arc arcs ≡ b →
        option_and_then where_arcs (if b then Some arcs else None) ≡ (if b then Some arcs else None)
    by true is = ap (λ c. if c then Some arcs else None) is
    by false is = refl

known_twice : (told : Option (List ℕ)) →
    option_and_then where_arcs (option_and_then where_arcs told) ≡ option_and_then where_arcs told
known_twice None = refl
known_twice (Some arcs) = known_again arcs

-- two tables have the same arcs of 32 bits for each name
abbrev Alike : NamedArcs → NamedArcs → Type 0
Alike one other = (name : List ℕ) → first_arcs one name ≡ first_arcs other name

behind_same : (one other : NamedArcs) → Alike one other → (name : Option (List ℕ)) (arcs : Option (List ℕ)) →
    behind_first_name one name arcs ≡ behind_first_name other name arcs
behind_same one other a None arcs = refl
behind_same one other a (Some name) arcs = ap (option_and_then (λ first. option_map (λ ns. first ++ ns) arcs)) (a name)

alone_same : (one other : NamedArcs) → Alike one other → (text : TextValue) (name : List ℕ) →
    alone_said one text name ≡ alone_said other text name
alone_same one other a (Number false digits) name = behind_same one other a (Some name) (arc_numbers (digits ∷ []))
alone_same one other a (Number true digits) name = refl
alone_same one other a (Name first) [] = a first
alone_same one other a (Name first) (x ∷ xs) = refl
alone_same one other a (Literal token) name = refl
alone_same one other a (Chosen own text) name = refl
alone_same one other a (InBraces parts) name = refl
alone_same one other a (InArcs own digits) name = refl

arcs_same : (one other : NamedArcs) → Alike one other → (text : TextValue) → arcs_said one text ≡ arcs_said other text
arcs_same one other a (InArcs name digits) = behind_same one other a name (arc_numbers digits)
arcs_same one other a (InBraces (AndText name text NoTexts)) = alone_same one other a text name
arcs_same one other a (InBraces (AndText name text (AndText n t ts))) = refl
arcs_same one other a (InBraces NoTexts) = refl
arcs_same one other a (Literal token) = refl
arcs_same one other a (Number minus digits) = refl
arcs_same one other a (Name name) = refl
arcs_same one other a (Chosen name text) = refl

-- ---- values

-- two readings tell the same of each filter and of each identifier
record AreAlike (one other : Reading) : Type 0 where
  filters : (text : TextValue) → one.filter text ≡ other.filter text
  names : Alike one.names other.names

members_same : (one other : TextValue → Option TypedValue) → ((text : TextValue) → one text ≡ other text) →
    (texts : TextParts) → members_said one texts ≡ members_said other texts
members_same one other a texts = λ i. members_said (λ text. a text i) texts

picked_by : (same : Bool) (k : ℕ) (one other : Option TypedValue) (rest others : Option TypedValue) → one ≡ other →
    rest ≡ others → (if same then option_map (Pick k) one else rest) ≡ (if same then option_map (Pick k) other else others)
picked_by same k one other rest others e f = λ i. if same then option_map (Pick k) (e i) else f i

mutual
  alike : {one other : Reading} → AreAlike one other → (syntax : TypeSyntax) (text : TextValue) →
      denoted one syntax text ≡ denoted other syntax text
  alike a Boolean text = refl
  alike a (Integer names ranges) text = refl
  alike a (Enumerated names) text = refl
  alike a (BitString names sizes) text = refl
  alike a (OctetString sizes) text = refl
  alike a NullType text = refl
  alike {one = one} {other = other} a ObjectIdentifier text =
      ap (λ x. option_map Identifier (option_and_then where_oid x)) (arcs_same one.names other.names a.names text)
  alike a (TextString charset sizes) text = refl
  alike a GeneralizedTime text = refl
  alike a (Sequence parts) text =
      λ i. option_map Parts (option_and_then (λ texts. components_alike a parts texts i) (parts_of text))
  alike a (SetType parts) text =
      λ i. option_map Parts (option_and_then (λ texts. unordered_alike a parts texts i) (parts_of text))
  alike a (SequenceOf member sizes) text = λ i. option_and_then (sized_members sizes)
      (option_and_then (members_said (λ t. alike a member t i)) (parts_of text))
  alike a (SetOf member sizes) text = λ i. option_and_then (sized_members sizes) (option_map (rising_by (der member))
      (option_and_then (members_said (λ t. alike a member t i)) (parts_of text)))
  alike a (Choice parts) text = λ i. chosen_by (λ name t. picked_alike a zero parts name t i) text
  alike a (Tagged tag explicit of) text = alike a of text
  alike a Any text = refl
  alike a Filter text = a.filters text

  picked_alike : {one other : Reading} → AreAlike one other → (k : ℕ) (parts : TypeParts) (name : List ℕ)
      (text : TextValue) → picked_said one k parts name text ≡ picked_said other k parts name text
  picked_alike a k NoParts name text = refl
  picked_alike a k (Part own syntax optional default rest) name text =
      let inner = alike a syntax text in
      let others = picked_alike a (k + 1) rest name text in
      λ i. if same_name own name then option_map (Pick k) (inner i) else others i

  components_alike : {one other : Reading} → AreAlike one other → (parts : TypeParts) (texts : TextParts) →
      components_said one parts texts ≡ components_said other parts texts
  components_alike a NoParts NoTexts = refl
  components_alike a NoParts (AndText own text others) = refl
  components_alike a (Part name syntax optional default rest) NoTexts =
      ap (left_out optional default) (components_alike a rest NoTexts)
  components_alike a (Part name syntax optional default rest) (AndText own text others) =
      let inner = alike a syntax text in
      let behind = components_alike a rest others in
      let absent = components_alike a rest (AndText own text others) in
      λ i. if same_name name own
      then option_and_then (λ v. option_map (Filled v) (behind i)) (inner i)
      else left_out optional default (absent i)

  unordered_alike : {one other : Reading} → AreAlike one other → (parts : TypeParts) (texts : TextParts) →
      unordered_said one parts texts ≡ unordered_said other parts texts
  unordered_alike a NoParts NoTexts = refl
  unordered_alike a NoParts (AndText own text others) = refl
  unordered_alike a (Part name syntax optional default rest) NoTexts =
      ap (left_out optional default) (unordered_alike a rest NoTexts)
  unordered_alike a (Part name syntax optional default rest) (AndText own text others) =
      let absent = unordered_alike a rest (AndText own text others) in
      λ i. where_taken (taken_out name (AndText own text others))
      (λ t ts. option_and_then (λ v. option_map (Filled v) (unordered_alike a rest ts i)) (alike a syntax t i))
      (left_out optional default (absent i))

-- ---- filters

item_same : (one other : NamedArcs) → Alike one other → (text : TextValue) → item_said one text ≡ item_said other text
item_same one other a text = alike {one = reading_of no_filter one} {other = reading_of no_filter other}
    (record { filters = λ t. refl {a = None}; names = a }) filter_item text

mutual
  filter_same : (one other : NamedArcs) → Alike one other → (text : TextValue) →
      filter_said one text ≡ filter_said other text
  filter_same one other a (Chosen name text) =
      let item = item_same one other a text in
      let members = filters_same one other a text in
      let negated = filter_same one other a text in
      λ i. option_map (λ value. Raw (der filter_choice value)) (alternative name (item i) (members i) (negated i))
  filter_same one other a (Literal token) = refl
  filter_same one other a (Number minus digits) = refl
  filter_same one other a (Name name) = refl
  filter_same one other a (InBraces parts) = refl
  filter_same one other a (InArcs name digits) = refl

  filters_same : (one other : NamedArcs) → Alike one other → (text : TextValue) →
      filters_said one text ≡ filters_said other text
  filters_same one other a (InBraces parts) = each_same one other a parts
  filters_same one other a (Literal token) = refl
  filters_same one other a (Number minus digits) = refl
  filters_same one other a (Name name) = refl
  filters_same one other a (Chosen name text) = refl
  filters_same one other a (InArcs name digits) = refl

  each_same : (one other : NamedArcs) → Alike one other → (texts : TextParts) → each_said one texts ≡ each_said other texts
  each_same one other a NoTexts = refl
  each_same one other a (AndText name text others) =
      let first = filter_same one other a text in
      let rest = each_same one other a others in
      λ i. option_and_then (λ v. option_map (Then v) (rest i)) (where_unnamed name (first i))

value_same : (one other : NamedArcs) → Alike one other → (syntax : TypeSyntax) (text : TextValue) →
    value_named one syntax text ≡ value_named other syntax text
value_same one other a syntax text = alike {one = reading_of filter_said one} {other = reading_of filter_said other}
    (record { filters = filter_same one other a; names = a }) syntax text

-- a table that has of each name the arcs that names give it, where they have 32 bits, tells the same values
pub known_value : (table names : NamedArcs) → ((name : List ℕ) → table name ≡ where_known names name) →
    (syntax : TypeSyntax) (text : TextValue) → value_named table syntax text ≡ value_named names syntax text
known_value table names is syntax text = value_same table names
    (λ name. ap (λ x. standard_or (first_arc name) (option_and_then where_arcs x)) (is name) ∙
    ap (standard_or (first_arc name)) (known_twice (names name))) syntax text
