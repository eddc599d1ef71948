-- Arcs: the object identifier that a text says (X.680, section 32; X.660, annex A).
use Rattle.std.specs.Prelude.{ℕ, List, [], ◌∷◌, ◌++◌, Bool, false, ◌&&◌, ◌||◌, Option, None, Some, codes, option_map}
use Rattle.std.specs.Prelude.{option_and_then, if◌then◌else◌}
use Rattle.std.specs.List.{list_all}
use Rattle.term_values.specs.Oid.{is_oid, is_arc}
use Rattle.asn1_leaf_values.specs.Literals.{numeral, same_name}
use Rattle.asn1_leaf_values.specs.TextValues.{TextValue, TextParts}
use Rattle.asn1_leaf_values.specs.TextValues.TextValue.{Number, Name, InBraces, InArcs}
use Rattle.asn1_leaf_values.specs.TextValues.TextParts.{NoTexts, AndText}

-- the number of a first arc that the standard names
abbrev pub first_arc : List ℕ → Option ℕ
first_arc name =
    if same_name name (codes "itu-t") || same_name name (codes "ccitt") then Some 0
    else (if same_name name (codes "iso") then Some 1
    else (if same_name name (codes "joint-iso-itu-t") || same_name name (codes "joint-iso-ccitt") then Some 2
    else None))

abbrev pub where_arc : ℕ → Option ℕ
where_arc n = if is_arc n then Some n else None

-- the number of an arc, of 32 bits
abbrev pub arc_number : List ℕ → Option ℕ
arc_number digits = option_and_then where_arc (numeral digits)

abbrev pub arc_numbers : List (List ℕ) → Option (List ℕ)
arc_numbers [] = Some []
arc_numbers (digits ∷ others) =
    option_and_then (λ n. option_map (λ ns. n ∷ ns) (arc_numbers others)) (arc_number digits)

-- what modules say of the names with which identifiers begin: the arcs for which each stands
abbrev pub NamedArcs : Type 0
NamedArcs = List ℕ → Option (List ℕ)

-- no module says anything of a name
abbrev pub no_names : NamedArcs
no_names name = None

abbrev pub where_arcs : List ℕ → Option (List ℕ)
where_arcs arcs = if list_all is_arc arcs then Some arcs else None

-- the arcs for which a first name stands: the one that the standard names, else those that a module gives it
abbrev pub standard_or : Option ℕ → Option (List ℕ) → Option (List ℕ)
standard_or (Some first) defined = Some (first ∷ [])
standard_or None defined = defined

abbrev pub first_arcs : NamedArcs → List ℕ → Option (List ℕ)
first_arcs names name = standard_or (first_arc name) (option_and_then where_arcs (names name))

-- arcs behind a first name, where one stands
abbrev pub behind_first_name : NamedArcs → Option (List ℕ) → Option (List ℕ) → Option (List ℕ)
behind_first_name names None arcs = arcs
behind_first_name names (Some name) arcs =
    option_and_then (λ first. option_map (λ ns. first ++ ns) arcs) (first_arcs names name)

-- what stands alone in braces, with its name: `{name number}` and `{name}` are kept as lists of one part. `{number}` is a
-- single arc, which is no object identifier.
abbrev pub alone_said : NamedArcs → TextValue → List ℕ → Option (List ℕ)
alone_said names (Number false digits) name = behind_first_name names (Some name) (arc_numbers (digits ∷ []))
alone_said names (Name first) [] = first_arcs names first
alone_said names _ _ = None

-- the arcs that a text says
abbrev pub arcs_said : NamedArcs → TextValue → Option (List ℕ)
arcs_said names (InArcs name digits) = behind_first_name names name (arc_numbers digits)
arcs_said names (InBraces (AndText name text NoTexts)) = alone_said names text name
arcs_said names _ = None

abbrev pub where_oid : List ℕ → Option (List ℕ)
where_oid arcs = if is_oid arcs then Some arcs else None
