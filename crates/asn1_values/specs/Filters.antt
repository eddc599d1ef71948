-- Filters: which CMISFilter a text denotes, by the CHOICE of X.711, section 7.5 (docs/PROFILE.md, section 13), and
-- which value of any type.
use Rattle.std.specs.Prelude.{ℕ, List, [], ◌∷◌, Option, None, Some, codes, option_map, option_and_then, if◌then◌else◌}
use Rattle.term_values.specs.CmipTypes.{filter_item, filter_choice}
use Rattle.term_values.specs.Decoding.{rising_by}
use Rattle.term_values.specs.Syntaxes.{TypeSyntax}
use Rattle.term_values.specs.Syntaxes.TypeSyntax.{Filter}
use Rattle.term_values.specs.Typed.{TypedValue, TypedValues}
use Rattle.term_values.specs.Typed.TypedValue.{Many, Pick, Raw}
use Rattle.term_values.specs.Typed.TypedValues.{Nothing, Then}
use Rattle.term_values.specs.Written.{der}
use Rattle.asn1_leaf_values.specs.Arcs.{NamedArcs, no_names}
use Rattle.asn1_values.specs.Denoted.{denoted, reading_of}
use Rattle.asn1_leaf_values.specs.Literals.{same_name}
use Rattle.asn1_leaf_values.specs.TextValues.{TextValue, TextParts}
use Rattle.asn1_leaf_values.specs.TextValues.TextValue.{Literal, Number, Name, Chosen, InBraces, InArcs}
use Rattle.asn1_leaf_values.specs.TextValues.TextParts.{NoTexts, AndText}

-- an item holds no filter
abbrev pub no_filter : NamedArcs → TextValue → Option TypedValue
no_filter names text = None

-- an item; its syntax holds no CMISFilter
abbrev pub item_said : NamedArcs → TextValue → Option TypedValue
item_said names text = denoted (reading_of no_filter names) filter_item text

-- filters by rising encoding
abbrev pub rising_filters : TypedValues → TypedValue
rising_filters values = Many (rising_by (der Filter) values)

-- the alternative of that name: item, and, or, not
abbrev pub alternative : List ℕ → Option TypedValue → Option TypedValues → Option TypedValue → Option TypedValue
alternative name item members negated =
    if same_name name (codes "item") then option_map (Pick 0) item
    else (if same_name name (codes "and")
    then option_map (Pick 1) (option_map rising_filters members)
    else (if same_name name (codes "or")
    then option_map (Pick 2) (option_map rising_filters members)
    else (if same_name name (codes "not") then option_map (Pick 3) negated else None)))

-- a member has no name
abbrev pub where_unnamed : List ℕ → Option TypedValue → Option TypedValue
where_unnamed [] found = found
where_unnamed (first ∷ more) found = None

abbrev mutual
  -- the encoding of the value that the text denotes in the CHOICE
  pub filter_said : NamedArcs → TextValue → Option TypedValue
  filter_said names (Chosen name text) =
      option_map (λ value. Raw (der filter_choice value))
      (alternative name (item_said names text) (filters_said names text) (filter_said names text))
  filter_said names (Literal token) = None
  filter_said names (Number minus digits) = None
  filter_said names (Name name) = None
  filter_said names (InBraces parts) = None
  filter_said names (InArcs name digits) = None

  -- the filters of a set, as they come
  pub filters_said : NamedArcs → TextValue → Option TypedValues
  filters_said names (InBraces parts) = each_said names parts
  filters_said names (Literal token) = None
  filters_said names (Number minus digits) = None
  filters_said names (Name name) = None
  filters_said names (Chosen name text) = None
  filters_said names (InArcs name digits) = None

  pub each_said : NamedArcs → TextParts → Option TypedValues
  each_said names NoTexts = Some Nothing
  each_said names (AndText name text others) =
      option_and_then (λ v. option_map (Then v) (each_said names others))
      (where_unnamed name (filter_said names text))

-- the value of the syntax that the text denotes, where modules give names these arcs
abbrev pub value_named : NamedArcs → TypeSyntax → TextValue → Option TypedValue
value_named names syntax text = denoted (reading_of filter_said names) syntax text

-- the same where no module does
abbrev pub value_said : TypeSyntax → TextValue → Option TypedValue
value_said syntax text = value_named no_names syntax text
