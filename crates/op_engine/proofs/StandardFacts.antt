-- Examples of what is tried before an operation, of linked replies and of what an operation leaves, computed: X.711,
-- section 7.5; docs/PROFILE.md, section 17. The map has one object, the root, which is an element.
use Rattle.std.specs.Prelude.{◌≡◌, ℕ, pos, negsuc, true, false, List, [], ◌∷◌, Some, Ok, Err, codes, refl}
use Rattle.term_model.specs.declared.filter.Asked.TheVariants as filters
use Rattle.term_model.specs.declared.objects.NamedObject.{NamedObject}
use Rattle.term_model.specs.declared.reply.CmisError.{CmisError}
use Rattle.term_model.specs.declared.reply.Reply.TheVariants as reply
use Rattle.term_model.specs.declared.request.Head.{Head}
use Rattle.term_model.specs.declared.request.IdRef.TheVariants as ids
use Rattle.term_model.specs.declared.request.Named.TheVariants as named
use Rattle.term_model.specs.declared.schema.Set.{Set}
use Rattle.term_model.specs.declared.scope.Scope.TheVariants as scopes
use Rattle.term_model.specs.CmisErrors.{class_instance_conflict, complexity_limitation, invalid_filter}
use Rattle.term_model.specs.CmisErrors.{invalid_instance}
use Rattle.term_model.specs.CmisErrors.{invalid_scope, no_such_instance, no_such_object_class, sync_not_supported}
use Rattle.term_model.specs.FilterTrees.FilterTree.{And, Or}
use Rattle.term_model.specs.FilterTrees.FilterTrees.{Nothing}
use Rattle.term_model.proofs.ExampleNetwork.{element, element_class, element_oid, network}
use Rattle.operation_model.specs.LinkedReplies.{contents_in, linked_error, replies_size}
use Rattle.operation_model.specs.OperationChecks.{checked}
use Rattle.operation_model.specs.WholeOperation.{Progress, all_or_none, replies_to}

abbrev other_oid : List ℕ
other_oid = 2 ∷ 999 ∷ 3 ∷ 2 ∷ []

abbrev any_oid : List ℕ
any_oid = 2 ∷ 999 ∷ 3 ∷ 42 ∷ []

-- two further classes, the second one labelled actualClass
abbrev schema : Set
schema = record network {
  classes = element_class ∷ record element_class { id = other_oid; label = codes "other" }
      ∷ record element_class { id = any_oid; label = codes "actualClass" } ∷ [];
}

abbrev objects : List NamedObject
objects = record { name = []; object = element } ∷ []

abbrev octets : List ℕ
octets = 0xA4 ∷ 0x00 ∷ []

-- a Get of the root alone, which each object passes
abbrev head : Head
head = record {
  class = ids.Global element_oid;
  base = record { raw = octets; named = named.Object [] };
  sync = pos 0;
  scope = scopes.Plain (pos 0);
  filter = filters.Good (And Nothing);
}

-- ---- what is tried first

root_selected : checked schema objects head 0 ≡ Ok ([] ∷ [])
root_selected = refl

-- the empty or is true of no object
root_refused : checked schema objects (record head { filter = filters.Good (Or Nothing) }) 0 ≡ Ok []
root_refused = refl

local_class : checked schema objects (record head { class = ids.Local (pos 5) }) 0
    ≡ Err (no_such_object_class (ids.Local (pos 5)))
local_class = refl

unknown_class : checked schema objects (record head { class = ids.Global (1 ∷ 3 ∷ []) }) 0
    ≡ Err (no_such_object_class (ids.Global (1 ∷ 3 ∷ [])))
unknown_class = refl

no_form : checked schema objects (record head { base = record { raw = octets; named = named.NonSpecific } }) 0
    ≡ Err (invalid_instance octets)
no_form = refl

not_there : checked schema objects (record head {
  base = record { raw = octets; named = named.Object (record { attribute = any_oid; value = [] } ∷ []) };
}) 0 ≡ Err (no_such_instance octets)
not_there = refl

other_class : checked schema objects (record head { class = ids.Global other_oid }) 0
    ≡ Err (class_instance_conflict (ids.Global other_oid) octets)
other_class = refl

any_class : checked schema objects (record head { class = ids.Global any_oid }) 0 ≡ Ok ([] ∷ [])
any_class = refl

third_synchronization : checked schema objects (record head { sync = pos 2 }) 0 ≡ Err (sync_not_supported (pos 2))
third_synchronization = refl

fourth_scope : checked schema objects (record head { scope = scopes.Plain (pos 3) }) 0
    ≡ Err (invalid_scope (scopes.Plain (pos 3)))
fourth_scope = refl

negative_level : checked schema objects (record head { scope = scopes.Upto (negsuc 0) }) 0
    ≡ Err (invalid_scope (scopes.Upto (negsuc 0)))
negative_level = refl

full_list : checked schema objects head 1024 ≡ Ok ([] ∷ [])
full_list = refl

long_list : checked schema objects head 1025 ≡ Err complexity_limitation
long_list = refl

bad_filter : checked schema objects (record head { filter = filters.Bad octets }) 0 ≡ Err (invalid_filter octets)
bad_filter = refl

-- of two causes the earlier is told
class_before_instance : checked schema objects (record head {
  class = ids.Local (pos 5);
  base = record { raw = octets; named = named.NonSpecific };
}) 0 ≡ Err (no_such_object_class (ids.Local (pos 5)))
class_before_instance = refl

sync_before_scope : checked schema objects (record head { sync = negsuc 0; scope = scopes.Plain (pos 3) }) 0
    ≡ Err (sync_not_supported (negsuc 0))
sync_before_scope = refl

list_before_filter : checked schema objects (record head { filter = filters.Bad octets }) 1025
    ≡ Err complexity_limitation
list_before_filter = refl

-- ---- linked replies

short_contents : contents_in (0x30 ∷ 0x02 ∷ 0x05 ∷ 0x00 ∷ []) ≡ 0x05 ∷ 0x00 ∷ []
short_contents = refl

-- a length in two octets
long_contents : contents_in (0x30 ∷ 0x82 ∷ 0x01 ∷ 0x00 ∷ 0x05 ∷ []) ≡ 0x05 ∷ []
long_contents = refl

abbrev error : ℕ → CmisError
error code = record { code = pos code; parameter = Some (0x30 ∷ 0x02 ∷ 0x05 ∷ 0x00 ∷ []) }

linked_get_error : linked_error (error 7) ≡ reply.Linked 1 (0x05 ∷ 0x00 ∷ [])
linked_get_error = refl

linked_set_error : linked_error (error 8) ≡ reply.Linked 3 (0x05 ∷ 0x00 ∷ [])
linked_set_error = refl

linked_failure : linked_error (error 10) ≡ reply.Linked 5 (0x05 ∷ 0x00 ∷ [])
linked_failure = refl

-- baseObject has one reply, and an empty result where nothing is selected
one_of_base : replies_to (scopes.Plain (pos 0)) 0 (reply.Single octets ∷ []) ≡ reply.Single octets ∷ []
one_of_base = refl

none_of_base : replies_to (scopes.Plain (pos 0)) 0 [] ≡ reply.Empty ∷ []
none_of_base = refl

-- individualLevels 0 isn't baseObject
one_of_level : replies_to (scopes.Level (pos 0)) 2 (reply.Single (0x30 ∷ 0x02 ∷ 0x05 ∷ 0x00 ∷ []) ∷ [])
    ≡ reply.Linked 2 (0x05 ∷ 0x00 ∷ []) ∷ reply.Empty ∷ []
one_of_level = refl

-- four octets of a result and two of a parameter
sizes : replies_size (reply.Single (0x30 ∷ 0x02 ∷ 0x05 ∷ 0x00 ∷ []) ∷ reply.Empty
    ∷ reply.Error (record { code = pos 1; parameter = Some octets }) ∷ []) ≡ 6
sizes = refl

-- ---- synchronization

-- an operation failed on one object and changed another one
abbrev half_done : Progress
half_done = record {
  objects = [];
  replies = reply.Single octets ∷ reply.Error (error 8) ∷ [];
  failures = error 8 ∷ [];
  sources = [];
}

half_stays : all_or_none false objects half_done ≡ half_done
half_stays = refl

none_stays : all_or_none true objects half_done ≡ record {
  objects = objects;
  replies = reply.Error (error 8) ∷ [];
  failures = error 8 ∷ [];
  sources = [];
}
none_stays = refl
