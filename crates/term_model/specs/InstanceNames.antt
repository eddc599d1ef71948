-- What an ObjectInstance names: X.711, section 7.5, type ObjectInstance, and X.501, type RDNSequence; docs/PROFILE.md.
use Rattle.std.specs.Prelude.{ℕ, List, [], ◌∷◌, Bool, true, false, ◌&&◌, Option, None, Some, option_and_then, is_some}
use Rattle.std.specs.Prelude.{drop, length, if◌then◌else◌}
use Rattle.std.specs.List.{starts_with}
use Rattle.std.specs.Option.{option_map}
use Rattle.term_values.specs.Decoding.{inside_of, value_in}
use Rattle.term_values.specs.Der.{written}
use Rattle.term_values.specs.FilterTrees.{is_context}
use Rattle.term_values.specs.LeafReading.{octets_in}
use Rattle.term_values.specs.Syntaxes.{TypeSyntax}
use Rattle.term_values.specs.Tag.{context, universal}
use Rattle.term_values.specs.Tree.{TreeValue, TreeValues}
use Rattle.term_values.specs.Tree.TreeValues.{Nothing, Then}
use Rattle.term_values.specs.TreeTags.{tag_of}
use Rattle.term_values.specs.Written.{der}
use Rattle.term_model.specs.declared.name.Rdn.{Rdn}
use Rattle.term_model.specs.declared.request.Instance.{Instance}
use Rattle.term_model.specs.declared.request.Named.{Named}
use Rattle.term_model.specs.declared.request.Named.TheVariants as named
use Rattle.term_model.specs.declared.schema.AttrRec.{AttrRec}
use Rattle.term_model.specs.declared.schema.Set.{Set}
use Rattle.term_model.specs.Comparing.{is_same_rdn}
use Rattle.term_model.specs.ObjectOperation.{attribute_record}
use Rattle.term_model.specs.Parts.{inside_under, oid_under, two_under}

-- an attribute value assertion: the identifier, and the tree of the value
abbrev pub assertion_parts : TreeValue × TreeValue → Option (List ℕ × TreeValue)
assertion_parts parts = option_map (λ arcs. (arcs, parts.1)) (oid_under (universal 6) parts.0)

abbrev pub assertion_in : TreeValue → Option (List ℕ × TreeValue)
assertion_in tree = option_and_then assertion_parts (two_under (universal 16) tree)

abbrev pub are_assertions : TreeValues → Bool
are_assertions Nothing = true
are_assertions (Then x xs) = is_some (assertion_in x) && are_assertions xs

-- The octets of an asserted value in a name: those of the value that the tree denotes in the syntax of the attribute,
-- none where it denotes none; of an attribute that is unknown the tree as an ANY is kept.
abbrev pub asserted_octets : Option AttrRec → TreeValue → Option (List ℕ)
asserted_octets None tree = Some (written tree)
asserted_octets (Some attribute) tree = option_map (der attribute.syntax) (value_in attribute.syntax tree)

-- the part of a name, or none where the value doesn't fit its attribute
abbrev pub asserted_rdn : List AttrRec → List ℕ × TreeValue → Option Rdn
asserted_rdn records assertion =
    option_map (λ octets. record { attribute = assertion.0; value = octets })
    (asserted_octets (attribute_record records assertion.0) assertion.1)

-- the part that the assertions of a RelativeDistinguishedName give, or none where they are not one
abbrev pub rdn_inside : List AttrRec → TreeValues → Option (Option Rdn)
rdn_inside records Nothing = Some None
rdn_inside records (Then x Nothing) = option_map (asserted_rdn records) (assertion_in x)
rdn_inside records (Then x (Then y ys)) = if are_assertions (Then x (Then y ys)) then Some None else None

abbrev pub rdn_in : List AttrRec → TreeValue → Option (Option Rdn)
rdn_in records tree = option_and_then (rdn_inside records) (inside_under (universal 17) tree)

-- a name with one more part in front; none where one of its parts is none
abbrev pub joined_rdn : Option Rdn → Option (List Rdn) → Option (List Rdn)
joined_rdn (Some rdn) (Some rdns) = Some (rdn ∷ rdns)
joined_rdn (Some rdn) None = None
joined_rdn None rdns = None

-- the name that an RDNSequence gives
abbrev pub rdns_in : List AttrRec → TreeValues → Option (Option (List Rdn))
rdns_in records Nothing = Some (Some [])
rdns_in records (Then first others) =
    option_and_then (λ rdn. option_map (joined_rdn rdn) (rdns_in records others)) (rdn_in records first)

-- what a local name names: nothing, where one of its parts is none
abbrev pub named_locally : Option (List Rdn) → Named
named_locally (Some name) = named.Object name
named_locally None = named.Nothing

-- the name below the root of an object of the system with this name
abbrev pub below : List Rdn → List Rdn → Option (List Rdn)
below system name = if starts_with is_same_rdn name system then Some (drop (length system) name) else None

-- what a distinguished name names: nothing, where it doesn't begin with the system's own name
abbrev pub named_globally : List Rdn → Option (List Rdn) → Named
named_globally system name = named_locally (option_and_then (below system) name)

-- distinguishedName [2], nonSpecificForm [3], localDistinguishedName [4]
abbrev pub named_in : Set → TreeValue → Option Named
named_in set tree =
    if is_context 2 (tag_of tree)
    then option_map (named_globally set.system) (option_and_then (rdns_in set.attributes) (inside_of tree))
    else (if is_context 4 (tag_of tree)
    then option_map named_locally (option_and_then (rdns_in set.attributes) (inside_of tree))
    else (if is_context 3 (tag_of tree) then option_map (λ octets. named.NonSpecific) (octets_in tree) else None))

-- the instance: as an ANY is kept and given back, and what it names
abbrev pub instance_in : Set → TreeValue → Option Instance
instance_in set tree =
    option_map (λ found. record { raw = written tree; named = found }) (named_in set tree)
