-- ModuleTrees: what modules say, one field after the other (X.680, sections 13 to 16).
use Rattle.std.specs.Prelude.{Option}
use Rattle.std.specs.declared.alloc.Global.{Global}
use Rattle.std.specs.declared.vec.Vec.{Vec}
use Rattle.token_grammar.specs.declared.token.Token.{Token}
use Rattle.token_grammar.specs.declared.object_identifier.ObjectIdentifier.{ObjectIdentifier}
use Rattle.token_grammar.specs.Form.{Tree, Bare, Leaf, Pair, First, Second, Numbered}
use Rattle.token_grammar.specs.Parts.{object_identifier_tree, optional_tree, vector_tree}
use Rattle.asn1_values_syntax.specs.ValueTrees.{value_tree}
use Rattle.asn1_syntax.specs.TypeTrees.{type_tree}
use Rattle.asn1_syntax.specs.declared.module.Module.{Module}
use Rattle.asn1_syntax.specs.declared.module.ModuleHead.{ModuleHead}
use Rattle.asn1_syntax.specs.declared.module.ModuleBody.{ModuleBody}
use Rattle.asn1_syntax.specs.declared.module.Exports.{Exports}
use Rattle.asn1_syntax.specs.declared.module.ImportedSymbols.{ImportedSymbols}
use Rattle.asn1_syntax.specs.declared.module.Imports.{Imports}
use Rattle.asn1_syntax.specs.declared.module.Assigned.{Assigned}
use Rattle.asn1_syntax.specs.declared.module.Assigned.TheVariants.{OfType, OfValue}
use Rattle.asn1_syntax.specs.declared.module.Assignment.{Assignment}

-- a word with another one behind it
abbrev pub tag_default_tree : Token → Tree
tag_default_tree mode = Pair (Leaf mode) Bare

-- DEFINITIONS and what stands behind it in the head
abbrev pub definitions_tree : Option Token → Tree
definitions_tree mode = Pair Bare (Pair (optional_tree tag_default_tree mode) (Pair Bare Bare))

abbrev pub head_parts : Token → Option ObjectIdentifier → Option Token → Tree
head_parts name identifier mode = Pair (Leaf name) (Pair (optional_tree object_identifier_tree identifier)
    (definitions_tree mode))

abbrev pub head_tree : ModuleHead → Tree
head_tree x = head_parts x.name x.identifier x.tag_default

abbrev pub exports_tree : Exports → Tree
exports_tree x = Pair Bare (Pair (optional_tree (vector_tree Leaf) x.symbols) Bare)

abbrev pub symbols_tree : ImportedSymbols → Tree
symbols_tree x = Pair (vector_tree Leaf x.symbols) (Pair Bare (Pair (Leaf x.module_name)
    (optional_tree object_identifier_tree x.identifier)))

abbrev pub imports_tree : Imports → Tree
imports_tree x = Pair Bare (Pair (symbols_tree x.first) (Pair (vector_tree symbols_tree x.others) Bare))

abbrev pub assigned_tree : Assigned → Tree
assigned_tree (OfType of) = First (Pair Bare (type_tree of))
assigned_tree (OfValue of value) = Second (Pair (type_tree of) (Pair Bare (value_tree value)))

abbrev pub assignment_tree : Assignment → Tree
assignment_tree x = Pair (Leaf x.name) (assigned_tree x.assigned)

-- the body and END
abbrev pub body_parts : Option Exports → Option Imports → Vec Assignment Global → Tree
body_parts exported imported assigned = Pair (optional_tree exports_tree exported)
    (Pair (optional_tree imports_tree imported) (Pair (vector_tree assignment_tree assigned) Bare))

abbrev pub body_tree : ModuleBody → Tree
body_tree x = body_parts x.exports x.imports x.assignments

abbrev pub module_tree : Module → Tree
module_tree x = Numbered x.document (Pair (head_parts x.name x.identifier x.tag_default)
    (body_parts x.exports x.imports x.assignments))
