-- The value that a tree denotes: X.690, section 8. The relation is in Denotes.
use Rattle.std.specs.Prelude.{ℕ, zero, ◌+◌, List, Bool, true, false, ◌||◌, Option, None, Some, option_map}
use Rattle.std.specs.Prelude.{option_and_then, if◌then◌else◌}
use Rattle.term_values.specs.Beginnings.{begins}
use Rattle.term_values.specs.Bounded.{allowed_size}
use Rattle.term_values.specs.Der.{written}
use Rattle.term_values.specs.FilterTrees.{is_filter}
use Rattle.term_values.specs.Fits.{count}
use Rattle.term_values.specs.LeafReading.{truth_in, whole_in, named_in, bit_string_in, octet_string_in, null_in}
use Rattle.term_values.specs.LeafReading.{identifier_in}
use Rattle.term_values.specs.LeafReading.{text_in, time_in, where_it}
use Rattle.term_values.specs.Rearranged.{may_precede}
use Rattle.term_values.specs.Syntaxes.{Bounds, TypeSyntax, TypeParts}
use Rattle.term_values.specs.Syntaxes.TypeSyntax.{Boolean, Integer, Enumerated, BitString, OctetString, NullType}
use Rattle.term_values.specs.Syntaxes.TypeSyntax.{ObjectIdentifier, TextString, GeneralizedTime, Sequence, SetType}
use Rattle.term_values.specs.Syntaxes.TypeSyntax.{SequenceOf, SetOf, Choice, Tagged, Any, Filter}
use Rattle.term_values.specs.Syntaxes.TypeParts.{NoParts, Part}
use Rattle.term_values.specs.Tag.{is_same_tag}
use Rattle.term_values.specs.Tree.{TreeValue, TreeValues}
use Rattle.term_values.specs.Tree.TreeValue.{Primitive, Constructed}
use Rattle.term_values.specs.Tree.TreeValues.{Nothing as NoTrees, Then as AndTrees}
use Rattle.term_values.specs.TreeTags.{tag_of}
use Rattle.term_values.specs.Typed.{TypedValue, TypedSlots, TypedValues}
use Rattle.term_values.specs.Typed.TypedValue.{Parts, Many, Pick, Raw}
use Rattle.term_values.specs.Typed.TypedSlots.{NoSlots, Filled, Empty}
use Rattle.term_values.specs.Typed.TypedValues.{Nothing, Then}
use Rattle.term_values.specs.UniversalTags.{boolean, integer, bit_string, octet_string, null, object_identifier}
use Rattle.term_values.specs.UniversalTags.{enumerated}
use Rattle.term_values.specs.UniversalTags.{sequence, set, generalized_time, text_tag}
use Rattle.term_values.specs.Written.{der}
use Rattle.term_values.specs.declared.tag.Tag.{Tag}

-- a component is left out
abbrev pub left_out : Bool → Option TypedValue → Option TypedSlots → Option TypedSlots
left_out optional (Some default) slots = option_map (λ xs. Filled default xs) slots
left_out true None slots = option_map (λ xs. Empty xs) slots
left_out false None slots = None

-- the members that trees in a row denote, as they come
abbrev pub members_in : (TreeValue → Option TypedValue) → TreeValues → Option TypedValues
members_in member NoTrees = Some Nothing
members_in member (AndTrees x xs) = option_and_then (λ v. option_map (Then v) (members_in member xs)) (member x)

-- the members by the rising order of their encodings
abbrev pub inserted_by : (TypedValue → List ℕ) → TypedValue → TypedValues → TypedValues
inserted_by encoding x Nothing = Then x Nothing
inserted_by encoding x (Then y ys) =
    if may_precede (encoding x) (encoding y) then Then x (Then y ys) else Then y (inserted_by encoding x ys)

abbrev pub rising_by : (TypedValue → List ℕ) → TypedValues → TypedValues
rising_by encoding Nothing = Nothing
rising_by encoding (Then x xs) = inserted_by encoding x (rising_by encoding xs)

-- the trees in a constructed value
abbrev pub inside_of : TreeValue → Option TreeValues
inside_of (Constructed tag inside) = Some inside
inside_of (Primitive tag contents) = None

-- the one value inside an explicit tag
abbrev pub one_in : (TreeValue → Option TypedValue) → TreeValues → Option TypedValue
one_in value (AndTrees x NoTrees) = value x
one_in value _ = None

abbrev pub sized_members : Bounds → TypedValues → Option TypedValue
sized_members sizes members = where_it (allowed_size sizes (count members)) (Many members)

-- the first tree that may begin the component, and the others
abbrev pub taken_out : (Tag → Bool) → TreeValues → Option (TreeValue × TreeValues)
taken_out starts NoTrees = None
taken_out starts (AndTrees x xs) =
    if starts (tag_of x) then Some (x, xs)
    else option_map (λ (rest : TreeValue × TreeValues). (rest.0, AndTrees x rest.1)) (taken_out starts xs)

abbrev pub where_taken : Option (TreeValue × TreeValues) → (TreeValue → TreeValues → Option TypedSlots)
    → Option TypedSlots → Option TypedSlots
where_taken (Some taken) found absent = found taken.0 taken.1
where_taken None found absent = absent

-- the tag is the one that is due, or another one stands in its place
abbrev pub is_due : Bool → Tag → TreeValue → Bool
is_due replaced tag tree = replaced || is_same_tag tag (tag_of tree)

-- what a tree of the due tag denotes
abbrev pub under : Bool → Tag → (TreeValue → Option TypedValue) → TreeValue → Option TypedValue
under replaced tag value tree = if is_due replaced tag tree then value tree else None

-- what the trees in a constructed value denote
abbrev pub within : (TreeValues → Option TypedValue) → TreeValue → Option TypedValue
within value tree = option_and_then value (inside_of tree)

abbrev mutual
  -- the value of the syntax that the tree denotes, where its tag is its own, or an implicit one replaces it
  pub denoted : Bool → TypeSyntax → TreeValue → Option TypedValue
  denoted replaced Boolean tree = under replaced boolean truth_in tree
  denoted replaced (Integer names ranges) tree = under replaced integer (whole_in ranges) tree
  denoted replaced (Enumerated names) tree = under replaced enumerated (named_in names) tree
  denoted replaced (BitString names sizes) tree = under replaced bit_string (bit_string_in sizes) tree
  denoted replaced (OctetString sizes) tree = under replaced octet_string (octet_string_in sizes) tree
  denoted replaced NullType tree = under replaced null null_in tree
  denoted replaced ObjectIdentifier tree = under replaced object_identifier identifier_in tree
  denoted replaced (TextString charset sizes) tree = under replaced (text_tag charset) (text_in charset sizes) tree
  denoted replaced GeneralizedTime tree = under replaced generalized_time time_in tree
  denoted replaced (Sequence parts) tree =
      under replaced sequence (within (λ inside. option_map Parts (parts_in parts inside))) tree
  denoted replaced (SetType parts) tree =
      under replaced set (within (λ inside. option_map Parts (unordered_in parts inside))) tree
  denoted replaced (SequenceOf member sizes) tree =
      under replaced sequence (within (λ inside.
      option_and_then (sized_members sizes) (members_in (denoted false member) inside))) tree
  denoted replaced (SetOf member sizes) tree =
      under replaced set (within (λ inside. option_and_then (sized_members sizes)
      (option_map (rising_by (der member)) (members_in (denoted false member) inside)))) tree
  denoted replaced (Choice parts) tree = if replaced then None else picked_in zero parts tree
  denoted replaced (Tagged tag true of) tree = under replaced tag (within (one_in (denoted false of))) tree
  denoted replaced (Tagged tag false of) tree = under replaced tag (denoted true of) tree
  denoted replaced Any tree = if replaced then None else Some (Raw (written tree))
  denoted replaced Filter tree = if replaced then None else where_it (is_filter tree) (Raw (written tree))

  -- the alternative that begins with the tag of the tree; so many stand before these
  pub picked_in : ℕ → TypeParts → TreeValue → Option TypedValue
  picked_in k NoParts tree = None
  picked_in k (Part name syntax optional default rest) tree =
      if begins syntax (tag_of tree) then option_map (Pick k) (denoted false syntax tree)
      else picked_in (k + 1) rest tree

  -- the components that trees in a row denote
  pub parts_in : TypeParts → TreeValues → Option TypedSlots
  parts_in NoParts NoTrees = Some NoSlots
  parts_in NoParts (AndTrees x xs) = None
  parts_in (Part name syntax optional default rest) NoTrees = left_out optional default (parts_in rest NoTrees)
  parts_in (Part name syntax optional default rest) (AndTrees x xs) =
      if begins syntax (tag_of x)
      then option_and_then (λ v. option_map (Filled v) (parts_in rest xs)) (denoted false syntax x)
      else left_out optional default (parts_in rest (AndTrees x xs))

  -- the components that trees in any order denote
  pub unordered_in : TypeParts → TreeValues → Option TypedSlots
  unordered_in NoParts NoTrees = Some NoSlots
  unordered_in NoParts (AndTrees x xs) = None
  unordered_in (Part name syntax optional default rest) trees =
      where_taken (taken_out (begins syntax) trees)
      (λ x others. option_and_then (λ v. option_map (Filled v) (unordered_in rest others)) (denoted false syntax x))
      (left_out optional default (unordered_in rest trees))

-- the value of the syntax that the tree denotes
abbrev pub value_in : TypeSyntax → TreeValue → Option TypedValue
value_in syntax tree = denoted false syntax tree
