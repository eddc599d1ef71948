-- Replies, errors, reports and rejects of an agent whose root is an element {elementId = 1} (class 2.999.3.1,
-- attributes 2.999.7.1 and 2.999.7.2), octet for octet, computed from the definitions: docs/PROFILE.md, section 4.
use Rattle.std.specs.Prelude.{◌≡◌, ℕ, pos, negsuc, List, [], ◌∷◌, ◌++◌, None, Some, codes, refl}
use Rattle.term_values.specs.Der.{identifier_octets, length_octets}
use Rattle.term_values.specs.Octets.{integer_contents}
use Rattle.term_values.specs.Oid.{subidentifier}
use Rattle.term_values.specs.ResultSyntaxes.{attributes_result, processing_failure, set_list_error}
use Rattle.term_values.specs.Written.{der}
use Rattle.term_model.specs.declared.event.Event.{Event}
use Rattle.term_model.specs.declared.name.Rdn.{Rdn}
use Rattle.term_model.specs.declared.reply.Reply.TheVariants as reply
use Rattle.term_model.specs.declared.request.IdRef.TheVariants as ids
use Rattle.term_model.specs.declared.results.FailureReason.TheVariants as reasons
use Rattle.term_model.specs.declared.results.SetInfoStatus.TheVariants as set_info
use Rattle.term_model.specs.declared.scope.Scope.TheVariants as scopes
use Rattle.term_model.specs.CmisErrors as errors
use Rattle.term_model.specs.FailureValues.{failure_value}
use Rattle.term_model.specs.Replies.{contents_of}
use Rattle.term_model.specs.ResultValues.{attributes_value, local_instance, set_list_value}
use Rattle.term_model.specs.SentApdus.{sent_event, sent_reject, sent_reply}

abbrev element : List ℕ
element = 2 ∷ 999 ∷ 3 ∷ 1 ∷ []

abbrev element_id : List ℕ
element_id = 2 ∷ 999 ∷ 7 ∷ 1 ∷ []

abbrev load : List ℕ
load = 2 ∷ 999 ∷ 7 ∷ 2 ∷ []

-- the time 0
abbrev time : List ℕ
time = codes "19700101000000Z"

abbrev five : List Rdn
five = record { attribute = element_id; value = 0x02 ∷ 0x01 ∷ 0x05 ∷ [] } ∷ []

-- the octets of the class, of the name {elementId = 5} and of the time
abbrev class_part : List ℕ
class_part = 0x80 ∷ 0x04 ∷ 0x88 ∷ 0x37 ∷ 0x03 ∷ 0x01 ∷ []

abbrev five_part : List ℕ
five_part =
    0xA4 ∷ 0x0D ∷ 0x31 ∷ 0x0B ∷ 0x30 ∷ 0x09 ∷ 0x06 ∷ 0x04 ∷ 0x88 ∷ 0x37 ∷ 0x07 ∷ 0x01 ∷ 0x02 ∷ 0x01 ∷ 0x05 ∷ []

abbrev time_part : List ℕ
time_part = 0x85 ∷ 0x0F ∷ time

-- a linked setListError: replacing the load, operator 0, gave invalidAttributeValue, 6
refused_load : sent_reply (pos 2) (pos 5) (pos 1)
    (reply.Linked 3 (contents_of set_list_error
    (set_list_value element five time (set_info.Error (pos 6) (pos 0) (ids.Global load) ∷ []))))
    ≡ 0x00 ∷ 0x00 ∷ 0x00 ∷ 0x43 ∷ 0xA1 ∷ 0x41 ∷ 0x02 ∷ 0x01 ∷ 0x01 ∷ 0x80 ∷ 0x01 ∷ 0x02 ∷ 0x02 ∷ 0x01 ∷ 0x02 ∷ 0xA3
    ∷ 0x36 ∷ (class_part ++ (five_part ++ (time_part
    ++ (0xA6 ∷ 0x0E ∷ 0xA0 ∷ 0x0C ∷ 0x0A ∷ 0x01 ∷ 0x06 ∷ 0x82 ∷ 0x01 ∷ 0x00 ∷ 0x80 ∷ 0x04 ∷ 0x88 ∷ 0x37 ∷ 0x07 ∷ 0x02
    ∷ []))))
unfolding sent_reply identifier_octets length_octets integer_contents subidentifier
refused_load = refl

-- the error of a Delete of an object that contains others
contains_others : sent_reply (pos 4) (pos 9) (pos 1)
    (reply.Error (errors.processing_failure (ids.Global element) five_part reasons.Contained))
    ≡ 0x00 ∷ 0x00 ∷ 0x00 ∷ 0x2C ∷ 0xA3 ∷ 0x2A ∷ 0x02 ∷ 0x01 ∷ 0x04 ∷ 0x02 ∷ 0x01 ∷ 0x0A ∷ 0x30 ∷ 0x22
    ∷ (class_part ++ (five_part
    ++ (0xA5 ∷ 0x0B ∷ 0x30 ∷ 0x09 ∷ 0x06 ∷ 0x05 ∷ 0x88 ∷ 0x37 ∷ 0x09 ∷ 0x0A ∷ 0x01 ∷ 0x05 ∷ 0x00 ∷ [])))
unfolding sent_reply identifier_octets length_octets integer_contents subidentifier
contains_others = refl

-- what stands in it is the processingFailure whose instance is the name
failure_is_written : errors.processing_failure (ids.Global element) five_part reasons.Contained ≡ record {
  code = pos 10;
  parameter = Some (der processing_failure (failure_value (ids.Global element) (local_instance five)
      reasons.Contained));
}
unfolding identifier_octets length_octets integer_contents subidentifier
failure_is_written = refl

-- the scope individualLevels -1
bad_scope : sent_reply (pos 3) (pos 3) (pos 1) (reply.Error (errors.invalid_scope (scopes.Level (negsuc 0))))
    ≡ 0x00 ∷ 0x00 ∷ 0x00 ∷ 0x0B ∷ 0xA3 ∷ 0x09 ∷ 0x02 ∷ 0x01 ∷ 0x03 ∷ 0x02 ∷ 0x01 ∷ 0x10 ∷ 0x81 ∷ 0x01 ∷ 0xFF ∷ []
unfolding sent_reply identifier_octets length_octets integer_contents
bad_scope = refl

-- an instance that is not there, as the request had it
not_there : sent_reply (pos 1) (pos 3) (pos 1) (reply.Error (errors.no_such_instance five_part))
    ≡ 0x00 ∷ 0x00 ∷ 0x00 ∷ 0x17 ∷ 0xA3 ∷ 0x15 ∷ 0x02 ∷ 0x01 ∷ 0x01 ∷ 0x02 ∷ 0x01 ∷ 0x01 ∷ five_part
unfolding sent_reply identifier_octets length_octets integer_contents
not_there = refl

-- the Get of an object's attributes, the load alone
abbrev get_load : List ℕ
get_load =
    der attributes_result (attributes_value element [] time
    (record { id = load; value = 0x02 ∷ 0x01 ∷ 0x09 ∷ [] } ∷ []))

load_is_nine : sent_reply (pos 2) (pos 5) (pos 1) (reply.Single get_load)
    ≡ 0x00 ∷ 0x00 ∷ 0x00 ∷ 0x32 ∷ 0xA2 ∷ 0x30 ∷ 0x02 ∷ 0x01 ∷ 0x02 ∷ 0x30 ∷ 0x2B ∷ 0x02 ∷ 0x01 ∷ 0x05 ∷ 0x30 ∷ 0x26
    ∷ (class_part ++ (0xA4 ∷ 0x00 ∷ (time_part
    ++ (0xA6 ∷ 0x0B ∷ 0x30 ∷ 0x09 ∷ 0x80 ∷ 0x04 ∷ 0x88 ∷ 0x37 ∷ 0x07 ∷ 0x02 ∷ 0x02 ∷ 0x01 ∷ 0x09 ∷ []))))
unfolding sent_reply identifier_octets length_octets integer_contents subidentifier
load_is_nine = refl

-- a report of the notification 2.999.10.1 with the information 3
abbrev trouble : Event
trouble = record {
  class = element;
  name = five;
  kind = 2 ∷ 999 ∷ 10 ∷ 1 ∷ [];
  time = time;
  info = Some (0x02 ∷ 0x01 ∷ 0x03 ∷ []);
}

reported : sent_event (pos 1) trouble
    ≡ 0x00 ∷ 0x00 ∷ 0x00 ∷ 0x3B ∷ 0xA1 ∷ 0x39 ∷ 0x02 ∷ 0x01 ∷ 0x01 ∷ 0x02 ∷ 0x01 ∷ 0x00 ∷ 0x30 ∷ 0x31
    ∷ (class_part ++ (five_part ++ (time_part
    ++ (0x86 ∷ 0x04 ∷ 0x88 ∷ 0x37 ∷ 0x0A ∷ 0x01 ∷ 0xA8 ∷ 0x03 ∷ 0x02 ∷ 0x01 ∷ 0x03 ∷ []))))
unfolding identifier_octets length_octets integer_contents subidentifier
reported = refl

-- the rejects of what is no APDU, and of an invoke under an id that is in use
unrecognised : sent_reject None 0 (pos 0)
    ≡ 0x00 ∷ 0x00 ∷ 0x00 ∷ 0x07 ∷ 0xA4 ∷ 0x05 ∷ 0x05 ∷ 0x00 ∷ 0x80 ∷ 0x01 ∷ 0x00 ∷ []
unfolding identifier_octets length_octets integer_contents
unrecognised = refl

in_use : sent_reject (Some (pos 7)) 1 (pos 0)
    ≡ 0x00 ∷ 0x00 ∷ 0x00 ∷ 0x08 ∷ 0xA4 ∷ 0x06 ∷ 0x02 ∷ 0x01 ∷ 0x07 ∷ 0x81 ∷ 0x01 ∷ 0x00 ∷ []
unfolding identifier_octets length_octets integer_contents
in_use = refl
