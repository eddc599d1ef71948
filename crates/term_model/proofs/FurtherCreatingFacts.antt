-- Further examples of creations, computed: with a reference object, with two name bindings, and what an m-Create
-- answers; X.711, section 7.4, m-Create; docs/PROFILE.md, section 15. The network is that of CreatingFacts.
use Rattle.std.specs.Prelude.{◌≡◌, ◌++◌, ℕ, pos, Some, None, Ok, Err, List, [], ◌∷◌, true, false, refl, codes}
use Rattle.std.specs.Prelude.{replicate}
use Rattle.term_values.specs.BerReading.{front_of, identifier_of, length_at}
use Rattle.term_values.specs.Der.{identifier_octets, length_octets}
use Rattle.term_values.specs.Moment.{moment_text, date_from, date_in_year}
use Rattle.term_values.specs.Octets.{integer_contents, integer_in}
use Rattle.term_values.specs.Oid.{subidentifier}
use Rattle.term_values.specs.Typed.{listed}
use Rattle.term_values.specs.Typed.TypedValue.{Identifier, Int, Many}
use Rattle.term_model.specs.declared.effect.What.TheVariants as what
use Rattle.term_model.specs.declared.filter_item.Given.{Given}
use Rattle.term_model.specs.declared.name.Rdn.{Rdn}
use Rattle.term_model.specs.declared.name_binding.BindRec.{BindRec}
use Rattle.term_model.specs.declared.object.Object.{Object}
use Rattle.term_model.specs.declared.objects.NamedObject.{NamedObject}
use Rattle.term_model.specs.declared.reply.Reply.TheVariants as reply
use Rattle.term_model.specs.declared.request.IdRef.TheVariants as ids
use Rattle.term_model.specs.declared.request.Instance.{Instance}
use Rattle.term_model.specs.declared.request.Named.TheVariants as named
use Rattle.term_model.specs.declared.results.FailureReason.TheVariants as reasons
use Rattle.term_model.specs.declared.schema.Set.{Set}
use Rattle.term_model.specs.CmisErrors.{invalid_instance, no_such_reference, processing_failure}
use Rattle.term_model.specs.CreateEffect.{create_one}
use Rattle.term_model.specs.Creating.{Asking, create_named}
use Rattle.term_model.specs.Opening.{opened}
use Rattle.term_model.proofs.CreatingFacts.{asked_for, binding_oid, element_binding, element_five, elements, five}
use Rattle.term_model.proofs.CreatingFacts.{extra_oid, id_is, load_is, root_at, six, top_oid, topped}
use Rattle.term_model.proofs.CreatingFacts.{two_elements, with_values}
use Rattle.term_model.proofs.ExampleNetwork.{element, element_oid, id_value, load_oid, load_value}

-- ---- the reference object

-- the octets 9 stand for its instance
abbrev referring : List Rdn → List Given → Asking
referring name given = record (asked_for [] given) {
  reference = Some (record { raw = 9 ∷ []; named = named.Object name });
}

abbrev element_six : ℕ → Object
element_six load = record {
  class = element_oid;
  binding = Some binding_oid;
  chosen = [];
  attrs = id_is 6 ∷ record { id = load_oid; value = Int (pos load) } ∷ [];
}

-- the load 7 is taken over, and elementId is the name's
taken_over : create_named elements two_elements (referring (five ∷ []) []) (named.Object (six ∷ []))
    ≡ Ok (element_six 7)
unfolding identifier_octets length_octets integer_contents integer_in subidentifier identifier_of length_at front_of
taken_over = refl

-- the list comes before the reference object, which comes before the initial value
listed_first : create_named elements two_elements (referring (five ∷ []) (load_is 3 ∷ [])) (named.Object (six ∷ []))
    ≡ Ok (element_six 3)
unfolding identifier_octets length_octets integer_contents integer_in subidentifier identifier_of length_at front_of
listed_first = refl

before_initial : create_named (with_values []) two_elements (referring (five ∷ []) []) (named.Object (six ∷ []))
    ≡ Ok (element_six 7)
unfolding identifier_octets length_octets integer_contents integer_in subidentifier identifier_of length_at front_of
before_initial = refl

-- the fifth step: one that isn't there, and one of another class
no_reference : create_named elements two_elements (referring (six ∷ []) []) (named.Object (six ∷ []))
    ≡ Err (no_such_reference (9 ∷ []))
unfolding integer_in identifier_of length_at front_of
no_reference = refl

abbrev with_other : List NamedObject
with_other =
    record { name = []; object = element }
    ∷ record { name = five ∷ []; object = record element_five { class = load_oid } } ∷ []

other_class : create_named elements with_other (referring (five ∷ []) []) (named.Object (six ∷ []))
    ≡ Err (no_such_reference (9 ∷ []))
unfolding integer_in identifier_of length_at front_of
other_class = refl

-- the seventh: the binding is without WITH-REFERENCE-OBJECT
abbrev unreferred : BindRec
unreferred = record element_binding {
  create = Some (record { with_reference_object = false; with_automatic_instance_naming = true });
}

not_referred : create_named (record elements { bindings = unreferred ∷ [] }) two_elements (referring (five ∷ []) [])
    (named.Object (six ∷ []))
    ≡ Err (processing_failure (ids.Global element_oid) [] reasons.NotCreatable)
unfolding integer_in identifier_of length_at front_of
not_referred = refl

-- ---- several bindings

abbrev lesser : List ℕ
lesser = 2 ∷ 999 ∷ 6 ∷ 0 ∷ []

abbrev bound_by : List BindRec → Set
bound_by bindings = record elements { bindings = bindings }

-- of two that lead as far the one of the lesser identifier
least_taken : create_named (bound_by (element_binding ∷ record element_binding { id = lesser } ∷ [])) two_elements
    (asked_for [] (load_is 3 ∷ [])) (named.Object (six ∷ []))
    ≡ Ok (record (element_six 3) { binding = Some lesser })
unfolding identifier_octets length_octets integer_contents integer_in subidentifier identifier_of length_at front_of
least_taken = refl

-- one without a CREATE clause doesn't lead as far
furthest_taken :
    create_named (bound_by (record element_binding { id = lesser; create = None } ∷ element_binding ∷ [])) two_elements
    (asked_for [] (load_is 3 ∷ [])) (named.Object (six ∷ [])) ≡ Ok (element_six 3)
unfolding identifier_octets length_octets integer_contents integer_in subidentifier identifier_of length_at front_of
furthest_taken = refl

-- ---- the second step: 33 parts, and an elementId that is no whole number but a BOOLEAN

too_deep : create_named elements two_elements (asked_for (1 ∷ []) []) (named.Object (replicate 33 five))
    ≡ Err (invalid_instance (1 ∷ []))
too_deep = refl

misfit : create_named elements two_elements (asked_for (1 ∷ []) [])
    (named.Object (record five { value = 1 ∷ 1 ∷ 255 ∷ [] } ∷ [])) ≡ Err (invalid_instance (1 ∷ []))
unfolding integer_in identifier_of length_at front_of
misfit = refl

-- ---- the effect of an m-Create at the first second of 1970

abbrev six_instance : Instance
six_instance = record { raw = 1 ∷ []; named = named.Object (six ∷ []) }

-- a result of 64 octets: the class, the instance {elementId = 6}, the time and both attributes
abbrev six_result : List ℕ
six_result =
    (0x30 ∷ 0x3E ∷ 0x80 ∷ 0x04 ∷ 0x88 ∷ 0x37 ∷ 0x03 ∷ 0x01 ∷ [])
    ++ (0xA4 ∷ 0x0D ∷ 0x31 ∷ 0x0B ∷ 0x30 ∷ 0x09 ∷ 0x06 ∷ 0x04 ∷ 0x88 ∷ 0x37 ∷ 0x07 ∷ 0x01 ∷ 0x02 ∷ 0x01 ∷ 0x06 ∷ [])
    ++ (0x85 ∷ 0x0F ∷ codes "19700101000000Z")
    ++ (0xA6 ∷ 0x16 ∷ 0x30 ∷ 0x09 ∷ 0x80 ∷ 0x04 ∷ 0x88 ∷ 0x37 ∷ 0x07 ∷ 0x01 ∷ 0x02 ∷ 0x01 ∷ 0x06 ∷ [])
    ++ (0x30 ∷ 0x09 ∷ 0x80 ∷ 0x04 ∷ 0x88 ∷ 0x37 ∷ 0x07 ∷ 0x02 ∷ 0x02 ∷ 0x01 ∷ 0x03 ∷ [])

six_effect : create_one elements two_elements (ids.Global element_oid) six_instance None (load_is 3 ∷ []) 0
    ≡ Ok (record {
      changes = (six ∷ [], Some (element_six 3)) ∷ [];
      reply = reply.Single six_result;
      sources = record { name = six ∷ []; class = element_oid; what = what.Created } ∷ [];
    })
unfolding identifier_octets length_octets integer_contents integer_in subidentifier identifier_of length_at front_of
    moment_text date_from date_in_year
six_effect = refl

-- an error is passed on
six_refused : create_one elements two_elements (ids.Global element_oid)
    (record { raw = 1 ∷ []; named = named.NonSpecific }) None [] 0 ≡ Err (invalid_instance (1 ∷ []))
six_refused = refl

-- ---- an opening with PACKAGES: the root has the conditional package with the load

abbrev root_choosing : List (List ℕ) → Set
root_choosing packages = record topped {
  instances = record root_at { chosen = packages } ∷ [];
}

-- nameBinding of the root is 0.0
root_chosen : opened (root_choosing (extra_oid ∷ [])) ≡ Ok (record {
  name = [];
  object = record {
    class = element_oid;
    binding = None;
    chosen = extra_oid ∷ [];
    attrs =
        id_value ∷ load_value ∷ record { id = top_oid 1; value = Identifier element_oid }
        ∷ record { id = top_oid 2; value = Identifier (0 ∷ 0 ∷ []) }
        ∷ record { id = top_oid 3; value = Many (listed (Identifier extra_oid ∷ [])) } ∷ [];
  };
} ∷ [])
unfolding identifier_octets length_octets integer_contents integer_in subidentifier identifier_of length_at front_of
root_chosen = refl

-- without the package it has no load: noSuchAttribute 5
root_plain : opened (root_choosing []) ≡ Err (record { index = 1; error = pos 5 })
unfolding identifier_octets length_octets integer_contents integer_in subidentifier identifier_of length_at front_of
root_plain = refl

-- a package that the class hasn't: invalidAttributeValue 6
root_misled : opened (record topped {
  instances = record root_at { given = id_value ∷ []; chosen = binding_oid ∷ [] } ∷ [];
}) ≡ Err (record { index = 1; error = pos 6 })
unfolding identifier_octets length_octets integer_contents integer_in subidentifier identifier_of length_at front_of
root_misled = refl
