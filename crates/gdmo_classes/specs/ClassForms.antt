-- ClassForms: the parts of the forms of packages, classes and name bindings, and the form of a template of
-- one of these (X.722, sections 8.3, 8.4 and 8.6), with the tokens with which their open parts go on.
use Rattle.std.specs.Prelude.{ℕ, Bool, List, [], ◌∷◌, codes, not, ◌&&◌, ◌||◌}
use Rattle.token_grammar.specs.declared.token.Token.{Token}
use Rattle.token_grammar.specs.Form.{Form, Marks, Keep, Then, Or, Maybe, Listed, AnyOrder, Named, Empty}
use Rattle.token_grammar.specs.TokenTests.{is_word_of, is_one_of, is_label, is_word, is_string}
use Rattle.token_grammar.specs.Parts.{words, either, qualified_name}
use Rattle.gdmo_members.specs.Clauses.{attributes, parameters, groups, actions, notifications, packages, classes}
use Rattle.gdmo_members.specs.Clauses.{name_bindings, comma, clause, reference, references, reference_row}
use Rattle.gdmo_members.specs.Templates.{property_value, property_slots, valued, attribute_use, member_use}
use Rattle.gdmo_members.specs.Templates.{conditional_package, class_with_subclasses, create_modifiers, delete_modifier}

-- a word in capitals
abbrev pub is_keyword : Token → Bool
is_keyword token = is_word token && not (is_label token)

-- what a reference begins with: the name of a document, or a label
abbrev pub is_reference_start : Token → Bool
is_reference_start token = is_string token || is_label token

-- the tokens with which parts may go on: any word or string, and in lists a comma too
abbrev pub is_word_or_string : Token → Bool
is_word_or_string = either is_word is_string

abbrev pub is_part_end : Token → Bool
is_part_end = either comma is_word_or_string

-- what may stand behind a modifier of a clause CREATE or DELETE
abbrev pub is_modifier_end : Token → Bool
is_modifier_end = either comma is_keyword

abbrev pub is_further : List ℕ → Token → Bool
is_further text = either comma (is_word_of text)

-- the properties that have a value
abbrev pub default_property : Form
default_property = valued (codes "DEFAULT" ∷ codes "VALUE" ∷ []) property_value

abbrev pub initial_property : Form
initial_property = valued (codes "INITIAL" ∷ codes "VALUE" ∷ []) property_value

abbrev pub permitted_property : Form
permitted_property = valued (codes "PERMITTED" ∷ codes "VALUES" ∷ []) qualified_name

abbrev pub required_property : Form
required_property = valued (codes "REQUIRED" ∷ codes "VALUES" ∷ []) qualified_name

-- the properties that are one word
abbrev pub reset_property : Form
reset_property = Keep (is_one_of (codes "REPLACE-WITH-DEFAULT" ∷ []))

abbrev pub access_property : Form
access_property = Keep (is_one_of (codes "GET" ∷ codes "REPLACE" ∷ codes "GET-REPLACE" ∷ []))

abbrev pub members_property : Form
members_property = Keep (is_one_of (codes "ADD" ∷ codes "REMOVE" ∷ codes "ADD-REMOVE" ∷ []))

-- the clauses of a package
abbrev pub attributes_clause : Form
attributes_clause = clause (codes "ATTRIBUTES" ∷ []) (Listed comma Empty attribute_use)

abbrev pub groups_clause : Form
groups_clause = clause (codes "ATTRIBUTE" ∷ codes "GROUPS" ∷ []) (Listed comma Empty (member_use groups attributes))

abbrev pub actions_clause : Form
actions_clause = clause (codes "ACTIONS" ∷ []) (Listed comma Empty (member_use actions parameters))

abbrev pub notifications_clause : Form
notifications_clause = clause (codes "NOTIFICATIONS" ∷ []) (Listed comma Empty (member_use notifications parameters))

-- the clauses of a class
abbrev pub superclasses_clause : Form
superclasses_clause = clause (codes "DERIVED" ∷ codes "FROM" ∷ []) (references classes)

abbrev pub packages_clause : Form
packages_clause = clause (codes "CHARACTERIZED" ∷ codes "BY" ∷ []) (references packages)

-- what stands behind an attribute in a package: its properties and its parameters
abbrev pub use_parts : Form
use_parts = Then (AnyOrder property_slots) (reference_row parameters)

-- `PRESENT IF string`, which stands behind a package in this clause
abbrev pub condition : Form
condition = Then (Marks (words (codes "PRESENT" ∷ codes "IF" ∷ []))) (Keep is_string)

abbrev pub conditional_clause : Form
conditional_clause = clause (codes "CONDITIONAL" ∷ codes "PACKAGES" ∷ []) (Listed comma Empty conditional_package)

-- the clauses of a name binding
abbrev pub subclasses : Form
subclasses = Then (Marks (words (codes "AND" ∷ []))) (Keep (is_one_of (codes "SUBCLASSES" ∷ [])))

abbrev pub subordinate_clause : Form
subordinate_clause = clause (codes "SUBORDINATE" ∷ codes "OBJECT" ∷ codes "CLASS" ∷ []) class_with_subclasses

abbrev pub superior_clause : Form
superior_clause = clause (codes "NAMED" ∷ codes "BY" ∷ codes "SUPERIOR" ∷ codes "OBJECT" ∷ codes "CLASS" ∷ [])
    class_with_subclasses

abbrev pub naming_clause : Form
naming_clause = clause (codes "WITH" ∷ codes "ATTRIBUTE" ∷ []) (reference attributes)

abbrev pub further_modifier : List ℕ → Form
further_modifier text = Then (Maybe (Keep comma)) (Keep (is_one_of (text ∷ [])))

abbrev pub creation : Form
creation = Then (Maybe create_modifiers) (reference_row parameters)

abbrev pub deletion : Form
deletion = Then (Maybe delete_modifier) (reference_row parameters)

abbrev pub create_clause : Form
create_clause = clause (codes "CREATE" ∷ []) creation

abbrev pub delete_clause : Form
delete_clause = clause (codes "DELETE" ∷ []) deletion

-- a template that holds others
abbrev pub class_level : Form
class_level = Or (Named packages) (Or (Named classes) (Named name_bindings))
