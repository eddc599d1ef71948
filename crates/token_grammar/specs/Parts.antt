-- Parts that several grammars have: a label with the name of a document before it, `Module.Type`, and an
-- object identifier (X.722, section 8.2; X.680, sections 14 and 32), with the trees of their values.
use Rattle.std.specs.Prelude.{ℕ, Bool, List, [], ◌∷◌, Option, option_map, codes, ◌||◌}
use Rattle.std.specs.declared.alloc.Global.{Global}
use Rattle.std.specs.declared.vec.Vec.{Vec}
use Rattle.token_grammar.specs.declared.token.Token.{Token}
use Rattle.token_grammar.specs.declared.label_reference.LabelReference.{LabelReference}
use Rattle.token_grammar.specs.declared.qualified_name.QualifiedName.{QualifiedName}
use Rattle.token_grammar.specs.declared.object_identifier.Arc.{Arc}
use Rattle.token_grammar.specs.declared.object_identifier.Arc.TheVariants.{Number, Named}
use Rattle.token_grammar.specs.declared.object_identifier.FirstArc.{FirstArc}
use Rattle.token_grammar.specs.declared.object_identifier.FirstArc.TheVariants.{OfArc, Name}
use Rattle.token_grammar.specs.declared.object_identifier.ObjectIdentifier.{ObjectIdentifier}
use Rattle.token_grammar.specs.Form.{Form, Tree, Marks, Keep, Then, Or, Maybe, Many, Bare, Leaf, Pair, First, Second}
use Rattle.token_grammar.specs.Form.{Empty, After, option_tree}
use Rattle.token_grammar.specs.TokenTests.{is_word_of, is_sign_of, is_label, is_name, is_number, is_string}

-- keywords in a row
abbrev pub words : List (List ℕ) → List (Token → Bool)
words [] = []
words (text ∷ texts) = is_word_of text ∷ words texts

-- one sign
abbrev pub sign : List ℕ → Form
sign text = Marks (is_sign_of text ∷ [])

-- the tokens with which a part may go on: those of one test or another
abbrev pub either : (Token → Bool) → (Token → Bool) → Token → Bool
either p q token = p token || q token

-- what an optional part says
abbrev pub optional_tree : {X : Type 0} → (X → Tree) → Option X → Tree
optional_tree view x = option_tree (option_map view x)

-- what a list says, behind what came before it
abbrev pub list_tree : {X : Type 0} → (X → Tree) → Tree → List X → Tree
list_tree view before [] = before
list_tree view before (x ∷ xs) = list_tree view (After before (view x)) xs

-- what a vector of parts says
abbrev pub vector_tree : {X : Type 0} → (X → Tree) → Vec X Global → Tree
vector_tree view xs = list_tree view Empty xs.items

-- `"name" :`, the name of the document that has the label
abbrev pub document_name : Form
document_name = Then (Keep is_string) (sign (codes ":"))

abbrev pub document_name_tree : Token → Tree
document_name_tree name = Pair (Leaf name) Bare

-- `["name" :] label`
abbrev pub label_reference : Form
label_reference = Then (Maybe document_name) (Keep is_label)

abbrev pub label_reference_tree : LabelReference → Tree
label_reference_tree x = Pair (optional_tree document_name_tree x.document) (Leaf x.label)

-- `Module.Type`, or `Module.value`
abbrev pub qualified_name : Form
qualified_name = Then (Keep is_name) (Then (sign (codes ".")) (Keep is_name))

abbrev pub qualified_name_tree : QualifiedName → Tree
qualified_name_tree x = Pair (Leaf x.module_name) (Pair Bare (Leaf x.name))

-- `name(number)`
abbrev pub named_number : Form
named_number = Then (Keep is_name) (Then (sign (codes "(")) (Then (Keep is_number) (sign (codes ")"))))

-- an arc of an object identifier
abbrev pub arc : Form
arc = Or (Keep is_number) named_number

abbrev pub arc_tree : Arc → Tree
arc_tree (Number number) = First (Leaf number)
arc_tree (Named name number) = Second (Pair (Leaf name) (Pair Bare (Pair (Leaf number) Bare)))

-- the first arc, for which a name may stand that has a value
abbrev pub first_arc : Form
first_arc = Or arc (Keep is_name)

abbrev pub first_arc_tree : FirstArc → Tree
first_arc_tree (OfArc x) = First (arc_tree x)
first_arc_tree (Name name) = Second (Leaf name)

-- `{ arc arc .. }`
abbrev pub object_identifier : Form
object_identifier = Then (Keep (is_sign_of (codes "{"))) (Then first_arc (Then (Many Empty arc) (sign (codes "}"))))

abbrev pub object_identifier_tree : ObjectIdentifier → Tree
object_identifier_tree x =
    Pair (Leaf x.brace) (Pair (first_arc_tree x.first) (Pair (vector_tree arc_tree x.others) Bare))
