-- Examples of what an m-Create and an m-Delete do to one object, computed: elements below elements, by elementId;
-- X.711, section 7.4; docs/PROFILE.md, section 15.
use Rattle.std.specs.Prelude.{◌≡◌, ◌++◌, ℕ, pos, Some, None, Ok, Err, List, [], ◌∷◌, refl, codes}
use Rattle.term_values.specs.BerReading.{front_of, identifier_of, length_at}
use Rattle.term_values.specs.Der.{identifier_octets, length_octets}
use Rattle.term_values.specs.Moment.{moment_text, date_from, date_in_year}
use Rattle.term_values.specs.Octets.{integer_contents, integer_in}
use Rattle.term_values.specs.Oid.{subidentifier}
use Rattle.term_model.specs.declared.effect.Effect.{Effect}
use Rattle.term_model.specs.declared.effect.What.TheVariants as what
use Rattle.term_model.specs.declared.filter_item.Given.{Given}
use Rattle.term_model.specs.declared.name.Rdn.{Rdn}
use Rattle.term_model.specs.declared.objects.NamedObject.{NamedObject}
use Rattle.term_model.specs.declared.reply.Reply.TheVariants as reply
use Rattle.term_model.specs.declared.request.IdRef.TheVariants as ids
use Rattle.term_model.specs.declared.request.Instance.{Instance}
use Rattle.term_model.specs.declared.request.Named.TheVariants as named
use Rattle.term_model.specs.declared.request.Place.{Place}
use Rattle.term_model.specs.declared.request.Place.TheVariants as places
use Rattle.term_model.specs.declared.request.Request.{Request}
use Rattle.term_model.specs.declared.request.Request.TheVariants as request
use Rattle.term_model.specs.CmisErrors.{duplicate_instance, invalid_attribute_value}
use Rattle.term_model.proofs.ExampleNetwork.{element_oid, id_oid}
use Rattle.life_model.specs.CreateRequest.{create_request, root_instance}
use Rattle.life_model.specs.Deletion.{delete_one}
use Rattle.life_model.specs.Subtrees.{without_subtree}
use Rattle.life_model.proofs.ExampleElements.{element_with, entry, five_alone, five_and_six, id_given, load_is, network}
use Rattle.life_model.proofs.ExampleElements.{part, root}

-- ---- a deletion

-- the octets of the instance {elementId = n}, of one part more below 5, and of the first second of 1970
abbrev pub local_name : ℕ → List ℕ
local_name n = 0xA4 ∷ 0x0D ∷ 0x31 ∷ 0x0B ∷ 0x30 ∷ 0x09 ∷ 0x06 ∷ 0x04 ∷ 0x88 ∷ 0x37 ∷ 0x07 ∷ 0x01 ∷ 0x02 ∷ 0x01 ∷ n ∷ []

abbrev pub below_five : List ℕ
below_five =
    (0xA4 ∷ 0x1A ∷ 0x31 ∷ 0x0B ∷ 0x30 ∷ 0x09 ∷ 0x06 ∷ 0x04 ∷ 0x88 ∷ 0x37 ∷ 0x07 ∷ 0x01 ∷ 0x02 ∷ 0x01 ∷ 0x05 ∷ [])
    ++ (0x31 ∷ 0x0B ∷ 0x30 ∷ 0x09 ∷ 0x06 ∷ 0x04 ∷ 0x88 ∷ 0x37 ∷ 0x07 ∷ 0x01 ∷ 0x02 ∷ 0x01 ∷ 0x06 ∷ [])

abbrev pub first_second : List ℕ
first_second = codes "19700101000000Z"

-- an element that contains another: processingFailure contained, 2.999.9.10.1, with class and local name
contained : delete_one network five_and_six (part 5 ∷ []) first_second
    ≡ Err (record {
      code = pos 10;
      parameter = Some ((0x30 ∷ 0x22 ∷ 0x80 ∷ 0x04 ∷ 0x88 ∷ 0x37 ∷ 0x03 ∷ 0x01 ∷ []) ++ local_name 5
          ++ (0xA5 ∷ 0x0B ∷ 0x30 ∷ 0x09 ∷ 0x06 ∷ 0x05 ∷ 0x88 ∷ 0x37 ∷ 0x09 ∷ 0x0A ∷ 0x01 ∷ 0x05 ∷ 0x00 ∷ []));
    })
unfolding identifier_octets length_octets subidentifier
contained = refl

-- the deeper one first: a result of class, instance and time, and an event source
six_deleted : delete_one network five_and_six (part 5 ∷ part 6 ∷ []) first_second
    ≡ Ok (record {
      changes = (part 5 ∷ part 6 ∷ [], None) ∷ [];
      reply = reply.Single ((0x30 ∷ 0x33 ∷ 0x80 ∷ 0x04 ∷ 0x88 ∷ 0x37 ∷ 0x03 ∷ 0x01 ∷ []) ++ below_five
          ++ (0x85 ∷ 0x0F ∷ codes "19700101000000Z"));
      sources = record { name = part 5 ∷ part 6 ∷ []; class = element_oid; what = what.Deleted } ∷ [];
    })
unfolding identifier_octets length_octets subidentifier
six_deleted = refl

-- and then the other
five_deleted : delete_one network (without_subtree (part 5 ∷ part 6 ∷ []) five_and_six) (part 5 ∷ []) first_second
    ≡ Ok (record {
      changes = (part 5 ∷ [], None) ∷ [];
      reply = reply.Single ((0x30 ∷ 0x26 ∷ 0x80 ∷ 0x04 ∷ 0x88 ∷ 0x37 ∷ 0x03 ∷ 0x01 ∷ []) ++ local_name 5
          ++ (0x85 ∷ 0x0F ∷ codes "19700101000000Z"));
      sources = record { name = part 5 ∷ []; class = element_oid; what = what.Deleted } ∷ [];
    })
unfolding identifier_octets length_octets subidentifier
five_deleted = refl

-- ---- creations

abbrev pub at_place : Place → List Given → Request
at_place place given = request.Create (ids.Global element_oid) place None given

-- what the creation of element n with load 1 does: a result of 64 octets
abbrev pub created : ℕ → Effect
created n = record {
  changes = (part n ∷ [], Some (element_with n 1)) ∷ [];
  reply = reply.Single ((0x30 ∷ 0x3E ∷ 0x80 ∷ 0x04 ∷ 0x88 ∷ 0x37 ∷ 0x03 ∷ 0x01 ∷ []) ++ local_name n
      ++ (0x85 ∷ 0x0F ∷ codes "19700101000000Z")
      ++ (0xA6 ∷ 0x16 ∷ 0x30 ∷ 0x09 ∷ 0x80 ∷ 0x04 ∷ 0x88 ∷ 0x37 ∷ 0x07 ∷ 0x01 ∷ 0x02 ∷ 0x01 ∷ n ∷ [])
      ++ (0x30 ∷ 0x09 ∷ 0x80 ∷ 0x04 ∷ 0x88 ∷ 0x37 ∷ 0x07 ∷ 0x02 ∷ 0x02 ∷ 0x01 ∷ 0x01 ∷ []));
  sources = record { name = part n ∷ []; class = element_oid; what = what.Created } ∷ [];
}

abbrev pub one_and_five : List NamedObject
one_and_five = root ∷ entry (part 1 ∷ []) (element_with 1 1) ∷ entry (part 5 ∷ []) (element_with 5 7) ∷ []

abbrev pub one_two_and_five : List NamedObject
one_two_and_five =
    root ∷ entry (part 1 ∷ []) (element_with 1 1) ∷ entry (part 2 ∷ []) (element_with 2 1)
    ∷ entry (part 5 ∷ []) (element_with 5 7) ∷ []

-- below the root the first one is 1, and the next one 2
first_named : create_request network five_alone (at_place (places.Below root_instance) (load_is 1 ∷ [])) 0
    ≡ Ok (created 1)
unfolding identifier_octets length_octets integer_contents integer_in subidentifier identifier_of length_at front_of
    moment_text date_from date_in_year
first_named = refl

second_named : create_request network one_and_five (at_place (places.Below root_instance) (load_is 1 ∷ [])) 0
    ≡ Ok (created 2)
unfolding identifier_octets length_octets integer_contents integer_in subidentifier identifier_of length_at front_of
    moment_text date_from date_in_year
second_named = refl

-- without instance and superior the superior is the root
without_superior : create_request network one_and_five (at_place places.Free (load_is 1 ∷ [])) 0 ≡ Ok (created 2)
unfolding identifier_octets length_octets integer_contents integer_in subidentifier identifier_of length_at front_of
    moment_text date_from date_in_year
without_superior = refl

-- and 1 is taken again once its object was deleted
again_named :
    create_request network (without_subtree (part 1 ∷ []) one_two_and_five)
    (at_place (places.Below root_instance) (load_is 1 ∷ [])) 0 ≡ Ok (created 1)
unfolding identifier_octets length_octets integer_contents integer_in subidentifier identifier_of length_at front_of
    moment_text date_from date_in_year
again_named = refl

-- under a name that is given: below 9, which isn't there and is given back; 5, which is there; and 8, whose elementId
-- would be 9
abbrev pub instance_of : List ℕ → List Rdn → Instance
instance_of raw name = record { raw = raw; named = named.Object name }

below_nine : create_request network five_alone (at_place (places.At (instance_of [] (part 9 ∷ part 1 ∷ []))) []) 0
    ≡ Err (record { code = pos 1; parameter = Some (local_name 9) })
unfolding identifier_octets length_octets integer_in subidentifier identifier_of length_at front_of
below_nine = refl

five_again : create_request network five_alone (at_place (places.At (instance_of (local_name 5) (part 5 ∷ []))) []) 0
    ≡ Err (duplicate_instance (local_name 5))
unfolding integer_in identifier_of length_at front_of
five_again = refl

eight_as_nine :
    create_request network five_alone
    (at_place (places.At (instance_of (local_name 8) (part 8 ∷ []))) (id_given 9 ∷ [])) 0
    ≡ Err (invalid_attribute_value (ids.Global id_oid) (2 ∷ 1 ∷ 9 ∷ []))
unfolding identifier_octets length_octets integer_contents integer_in identifier_of length_at front_of
eight_as_nine = refl
