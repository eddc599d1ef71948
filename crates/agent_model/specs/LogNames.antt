-- LogNames: the octets by which a line of a journal tells the name of a log, an RDNSequence (X.501), and the name that such
-- octets tell; docs/PROFILE.md, section 5.
use Rattle.std.specs.Prelude.{ℕ, List, [], true, Option, flat_map, option_and_then}
use Rattle.term_values.specs.Der.{encoded}
use Rattle.term_values.specs.KeptTest.{tree_of}
use Rattle.term_values.specs.Tag.{universal}
use Rattle.term_values.specs.Tree.{TreeValue}
use Rattle.term_model.specs.declared.name.Rdn.{Rdn}
use Rattle.term_model.specs.GetRequest.{rdn_octets}
use Rattle.term_model.specs.InstanceNames.{rdns_in}
use Rattle.term_model.specs.Parts.{inside_under}

-- RDNSequence ::= SEQUENCE OF RelativeDistinguishedName
abbrev pub log_octets : List Rdn → List ℕ
log_octets log = encoded true (universal 16) (flat_map rdn_octets log)

-- the name, each part of which is one assertion with its value as it is written
abbrev pub log_in_tree : TreeValue → Option (List Rdn)
log_in_tree tree =
    option_and_then (λ (name : Option (List Rdn)). name)
    (option_and_then (rdns_in []) (inside_under (universal 16) tree))

abbrev pub log_in : List ℕ → Option (List Rdn)
log_in octets = option_and_then log_in_tree (tree_of octets)
