-- The lines of a report: a word, an identifier in decimal arcs with points between them, and a label or the name of a
-- type, with blanks between the three. Each line ends in a line feed: docs/PROFILE.md, section 19.
use Rattle.std.specs.Prelude.{ℕ, List, [], ◌∷◌, ◌++◌, Bool, Option, codes, decimal, flat_map, if◌then◌else◌}
use Rattle.std.specs.Option.{option_map_or}
use Rattle.term_model.specs.declared.packages.Property.{Property}
use Rattle.term_model.specs.LineTexts.{line_feed}

-- an identifier
abbrev pub dotted : List ℕ → List ℕ
dotted [] = []
dotted (first ∷ others) = decimal first ++ flat_map (λ (arc : ℕ). codes "." ++ decimal arc) others

-- one line
abbrev pub entry_line : List ℕ → List ℕ → List ℕ → List ℕ
entry_line word id text = word ++ (dotted id ++ (codes " " ++ (text ++ line_feed)))

-- a line for each identifier, with its label
abbrev pub entry_lines : List ℕ → (List ℕ → List ℕ) → List (List ℕ) → List ℕ
entry_lines word label ids = flat_map (λ (id : List ℕ). entry_line word id (label id)) ids

-- a line for each type that is named for an identifier
abbrev pub type_lines : List ℕ → List ℕ → List (List ℕ) → List ℕ
type_lines word id types = flat_map (λ (type : List ℕ). entry_line word id type) types

-- the line of a package that isn't registered: a dash stands in the place of its identifier
unfoldable pub unregistered_line : List ℕ → List ℕ
unregistered_line label = codes " conditional - " ++ (label ++ line_feed)

-- a line for each of these
abbrev pub unregistered_lines : List (List ℕ) → List ℕ
unregistered_lines labels = flat_map unregistered_line labels

-- a letter, where the operation is allowed
abbrev pub letter : Bool → ℕ → List ℕ
letter allowed of_operation = if allowed then of_operation ∷ [] else []

-- the operations that managers may ask for: G for GET, R for REPLACE, A for ADD, M for REMOVE, and D for
-- REPLACE-WITH-DEFAULT, in this order
abbrev pub operations : Property → List ℕ
operations property =
    letter property.get 71 ++ (letter property.replace 82 ++ (letter property.add 65
    ++ (letter property.remove 77 ++ letter property.set_to_default 68)))

-- the line of an attribute, which ends in the letters of its operations; it ends in a blank where it has none
unfoldable pub attribute_line : List ℕ → List ℕ → Option Property → List ℕ
attribute_line id label property =
    codes " attribute " ++ (dotted id ++ (codes " " ++ (label ++ (codes " "
    ++ (option_map_or operations property [] ++ line_feed)))))

abbrev pub yes_or_no : Bool → List ℕ
yes_or_no answer = if answer then codes "yes" else codes "no"

-- whether the class with a label is one that the agent acts on
abbrev pub bound_line : List ℕ → Bool → List ℕ
bound_line label bound = codes "bound " ++ (label ++ (codes " " ++ (yes_or_no bound ++ line_feed)))
