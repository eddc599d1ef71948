-- Examples of docs/PROFILE.md, section 12, computed: names with which arcs begin that stand in other values.
use Rattle.std.specs.Prelude.{◌≡◌, [], false, None, Some, codes, refl}
use Rattle.token_grammar.specs.declared.token.Token.{Token}
use Rattle.token_grammar.specs.Form.{Tree, Bare, Leaf, Pair, First, Second, Absent, Present, Empty, After, Numbered}
use Rattle.term_values.specs.Syntaxes.{TypeSyntax}
use Rattle.term_values.specs.Syntaxes.TypeSyntax.{Integer, ObjectIdentifier, Sequence, Choice}
use Rattle.term_values.specs.Syntaxes.TypeParts.{NoParts, Part}
use Rattle.gdmo_names.specs.ValueNames.{BeginsIn, arcs_name}
use Rattle.gdmo_names.specs.ValueNames.BeginsIn.{arcs, chosen, component}
use Rattle.gdmo_names.specs.ValueNames.IsCalled.{first_called}
use Rattle.gdmo_names.specs.ValueNames.IsPartOf.{last}
use Rattle.gdmo_names.proofs.Texts.{word, digits, brace}

-- `{..}` with one part, and `name value` in it
abbrev braced : Tree → Tree
braced part =
    Numbered 0 (Second (Second (Second (Pair (Leaf (brace 0)) (Second (First (Pair (After Empty part) Bare)))))))

abbrev named_part : Token → Tree → Tree
named_part name value = First (Pair (Leaf name) value)

abbrev five : Tree
five = Numbered 0 (Second (First (Pair Absent (Leaf (digits 30 (codes "5"))))))

abbrev net : Token
net = word 20 (codes "net")

-- {net 5}
abbrev net_five : Tree
net_five = braced (named_part net five)

net_five_begins : arcs_name net_five ≡ Some net
net_five_begins = refl

-- {net -5} is no identifier
abbrev less : Tree
less = braced (named_part net (Numbered 0 (Second (First (Pair (Present (Leaf (word 29 (codes "-"))))
    (Leaf (digits 30 (codes "5"))))))))

less_begins_none : arcs_name less ≡ None
less_begins_none = refl

-- `single : {net 5}`, in CHOICE { single OBJECT IDENTIFIER }
abbrev single : Tree
single = Numbered 0 (Second (Second (First (Pair (Leaf (word 10 (codes "single"))) (Present (Pair Bare net_five))))))

abbrev one_of : TypeSyntax → TypeSyntax
one_of syntax = Choice (Part (codes "single") syntax false None NoParts)

single_begins : BeginsIn net (one_of ObjectIdentifier) single
single_begins = chosen refl refl (arcs refl)

-- {id {net 5}}, in SEQUENCE { id OBJECT IDENTIFIER }
inside_begins : BeginsIn net (Sequence (Part (codes "id") ObjectIdentifier false None NoParts))
    (braced (named_part (word 10 (codes "id")) net_five))
inside_begins = component {value = net_five} {name = codes "id"} (record {
  row = After Empty (named_part (word 10 (codes "id")) net_five);
  braces = refl;
  stands = last refl;
}) (first_called refl) (arcs refl)

-- in SEQUENCE { net INTEGER } the same braces hold a component
no_arcs_in_number : BeginsIn net (Integer [] []) five → ⊥
no_arcs_in_number b = elim b [ ]
