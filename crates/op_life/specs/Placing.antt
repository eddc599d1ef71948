-- The steps of a creation by what was found of its name and of its reference object: X.711, section 7.4, m-Create.
use Rattle.std.specs.Prelude.{ℕ, List, ◌&&◌, is_some, length, nat_le, Result, if◌then◌else◌}
use Rattle.std.specs.Option.{option_map_or}
use Rattle.term_model.specs.declared.name.Rdn.{Rdn}
use Rattle.term_model.specs.declared.object.Object.{Object}
use Rattle.term_model.specs.declared.objects.NamedObject.{NamedObject}
use Rattle.term_model.specs.declared.reply.CmisError.{CmisError}
use Rattle.term_model.specs.declared.schema.Set.{Set}
use Rattle.term_model.specs.CmisErrors.{invalid_instance, no_such_instance, no_such_reference}
use Rattle.term_model.specs.Creating.{Asking, below_superior, created_below, has_value, refused}
use Rattle.term_model.specs.GetRequest.{instance_octets}
use Rattle.term_model.specs.NamedObjects.{object_at}
use Rattle.op_life.specs.Referring.{creation_with, lacks_found, raw_of, referred}

-- the fifth step and those behind it
abbrev pub created_from : Set → List NamedObject → Asking → List ℕ → Rdn → List ℕ → Result Object CmisError
created_from schema objects asking class part superior =
    if lacks_found class asking.reference (referred objects asking.reference)
    then refused (no_such_reference (raw_of asking.reference))
    else created_below schema asking.clause (is_some asking.reference)
    (creation_with asking class part (referred objects asking.reference)) superior

-- the third step and those behind it, with the name of the superior
abbrev pub placed_below : Set → List NamedObject → Asking → List ℕ → List Rdn → Rdn → List Rdn
    → Result Object CmisError
placed_below schema objects asking class name part front =
    option_map_or (below_superior schema objects asking class name part) (object_at objects front)
    (refused (no_such_instance (instance_octets front)))

-- the second step and those behind it, by the last part of the name and those before it
abbrev pub by_parts : Set → List NamedObject → Asking → List ℕ → List Rdn → Rdn → List Rdn → Result Object CmisError
by_parts schema objects asking class name part front =
    if nat_le (length name) 32 && has_value schema part
    then placed_below schema objects asking class name part front
    else refused (invalid_instance asking.instance)
