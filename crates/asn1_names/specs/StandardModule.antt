-- StandardModule: the types of the module CMIP-1, which is built in and stands before all documents (X.711, section
-- 7.5; docs/PROFILE.md, section 11).
use Rattle.std.specs.Prelude.{List, ℕ, Bool, Option, None, Some, ◌==◌, codes, if◌then◌else◌}
use Rattle.std.specs.Cmp.Lexicographic.{pointwise}
use Rattle.term_values.specs.CmipTypes.{object_class, attribute_id, action_type_id, event_type_id, object_instance}
use Rattle.term_values.specs.CmipTypes.{rdn_sequence, attribute}
use Rattle.term_values.specs.Syntaxes.{TypeSyntax}
use Rattle.term_values.specs.Syntaxes.TypeSyntax.{Filter}

-- two names are one
abbrev pub is_same_name : List ℕ → List ℕ → Bool
is_same_name xs ys = pointwise ◌==◌ xs ys

abbrev pub standard_module_name : List ℕ
standard_module_name = codes "CMIP-1"

-- the type of this name, where CMIP-1 has one
abbrev pub standard_type : List ℕ → Option TypeSyntax
standard_type name =
    if is_same_name name (codes "ObjectClass") then Some object_class
    else if is_same_name name (codes "AttributeId") then Some attribute_id
    else if is_same_name name (codes "ActionTypeId") then Some action_type_id
    else if is_same_name name (codes "EventTypeId") then Some event_type_id
    else if is_same_name name (codes "ObjectInstance") then Some object_instance
    else if is_same_name name (codes "RDNSequence") then Some rdn_sequence
    else if is_same_name name (codes "Attribute") then Some attribute
    else if is_same_name name (codes "CMISFilter") then Some Filter
    else None
