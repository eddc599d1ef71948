-- The exchange that opens an association: BIND ::= SEQUENCE { title OBJECT IDENTIFIER }, and its answer
-- SEQUENCE { ENUMERATED { accepted(0), titleInUse(1), badBind(2), tooMany(3) }, INTEGER association };
-- docs/PROFILE.md, section 4.
use Rattle.std.specs.Prelude.{ℕ, pos, List, ◌++◌, true, false, Option, option_and_then}
use Rattle.term_values.specs.BerReading.{tree_in}
use Rattle.term_values.specs.Denotes.{Denotes}
use Rattle.term_values.specs.Der.{encoded}
use Rattle.term_values.specs.Octets.{integer_contents}
use Rattle.term_values.specs.PduSyntaxes.{bind as bind_syntax}
use Rattle.term_values.specs.Tag.{universal}
use Rattle.term_values.specs.Tree.{TreeValue}
use Rattle.term_values.specs.Typed.TypedSlots.{Filled, NoSlots}
use Rattle.term_values.specs.Typed.TypedValue.{Identifier, Parts}
use Rattle.term_model.specs.Parts.{oid_under, one_under}
use Rattle.term_model.specs.RemoteOperation.{integer}

-- the tree is the BIND of a manager with this title
abbrev pub IsBind : TreeValue → List ℕ → Type 0
IsBind tree title = Denotes bind_syntax tree (Parts (Filled (Identifier title) NoSlots))

-- the title in a BIND
abbrev pub title_of : TreeValue → Option (List ℕ)
title_of tree = option_and_then (oid_under (universal 6)) (one_under (universal 16) tree)

abbrev pub title_in : List ℕ → Option (List ℕ)
title_in bytes = option_and_then title_of (tree_in bytes)

-- the answer to the BIND of an association with this number
abbrev pub bind_answer : ℕ → ℕ → List ℕ
bind_answer result association =
    encoded true (universal 16) (encoded false (universal 10) (integer_contents (pos result))
    ++ integer (pos association))
